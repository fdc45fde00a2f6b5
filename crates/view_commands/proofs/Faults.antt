-- Counts of failures, by what a session and its output say of their own.
use Rattle.std.proofs.Common.{◌≡◌, ℕ, ◌+◌, ◌<◌, List, Option, refl, sym, ◌∙◌, subst, arith, inl, inr, Ok, Err}
use Rattle.std.specs.Prelude.{◌⊎◌, Result}
use Rattle.sessions.specs.Listening.{Read, Wrote, reason_of}
use Rattle.sessions.specs.declared.end.Reason as reason
use Rattle.sessions.specs.declared.end.Reason.TheVariants.{Finished, ReadFault, SessionLimit, WriteFault, Memory}
use Rattle.view_ends.specs.declared.fault.EndFault.{EndFault}
use Rattle.view_ends.specs.declared.fault.EndFault.TheVariants as fault
use Rattle.view_ends.specs.Calls.{Shuts, Keeps}
use Rattle.view_ends.specs.Desk.{Said}
use Rattle.view_ends.specs.Ends.{Rose}
use Rattle.view_commands.specs.Run.{KeptSo, RoseWhere}
use Rattle.view_commands.proofs.Counts.{rose_earlier, rose_from_none}

-- what came of a keeping, seen from an earlier state
pub kept-earlier : (old mid new : Said) (name : List ℕ) (got : Option (List ℕ)) (kept : reason.Reason) → mid.unkept name ≡ old.unkept name → KeptSo mid new name got kept → KeptSo old new name got kept
kept-earlier old mid new name got Finished same so = (so.0, so.1 ∙ same)
kept-earlier old mid new name got WriteFault same so = subst (λ (n : ℕ). Rose n (new.unkept name)) same so
kept-earlier old mid new name got Memory same so = subst (λ (n : ℕ). Rose n (new.unkept name)) same so
kept-earlier old mid new name got ReadFault same so = so
kept-earlier old mid new name got SessionLimit same so = so

-- and from a later one
pub kept-later : (old last new : Said) (name : List ℕ) (got : Option (List ℕ)) (kept : reason.Reason) → new.unkept name ≡ last.unkept name → new.file name ≡ last.file name → KeptSo old last name got kept → KeptSo old new name got kept
kept-later old last new name got Finished same file so = (file ∙ so.0, same ∙ so.1)
kept-later old last new name got WriteFault same file so = subst (λ (n : ℕ). Rose (old.unkept name) n) (sym same) so
kept-later old last new name got Memory same file so = subst (λ (n : ℕ). Rose (old.unkept name) n) (sym same) so
kept-later old last new name got ReadFault same file so = so
kept-later old last new name got SessionLimit same file so = so

-- what a session read, by what the input that was shut after it counts
pub read-so : (old shut new : Said) (input : List ℕ) (taken before faults : ℕ) (reason : reason.Reason) → before ≡ 0 → Read before faults reason → Shuts old shut input taken faults → new.reads input ≡ shut.reads input
    → RoseWhere (reason ≡ ReadFault) (old.reads input) (new.reads input)
read-so old shut new input taken before faults reason fresh read shuts same = subst (λ (n : ℕ). RoseWhere (reason ≡ ReadFault) (old.reads input) n) (sym same) record {
  rose = λ is. shuts.counted (rose_from_none faults (subst (λ (n : ℕ). Rose n faults) fresh (read.fault is)));
  calm = λ not. shuts.calm (read.calm not ∙ fresh);
}

-- what came of keeping an output, seen from before its input was shut and after the journal was kept
pub kept-so : (old shut last new : Said) (output : List ℕ) (got : Option (List ℕ)) (faults : ℕ) (kept : Result (Unit {0}) EndFault) → shut.unkept output ≡ old.unkept output → Keeps shut last output got faults kept
    → new.unkept output ≡ last.unkept output → new.file output ≡ last.file output → KeptSo old new output got (reason_of kept)
kept-so old shut last new output got faults (Ok _) before keeps unkept file = (file ∙ keeps.kept, unkept ∙ keeps.not_refused ∙ before)
kept-so old shut last new output got faults (Err fault.Failed) before keeps unkept file =
    subst (λ (n : ℕ). Rose n (new.unkept output)) before (subst (λ (n : ℕ). Rose (shut.unkept output) n) (sym unkept) keeps.refused)
kept-so old shut last new output got faults (Err fault.Memory) before keeps unkept file =
    subst (λ (n : ℕ). Rose n (new.unkept output)) before (subst (λ (n : ℕ). Rose (shut.unkept output) n) (sym unkept) keeps.refused)

-- the count of an output's failed writes, by what it counts itself and what came of keeping it
counted : (shut last : Said) (output : List ℕ) (got : Option (List ℕ)) (before faults : ℕ) (reason : reason.Reason) (kept : Result (Unit {0}) EndFault) → before ≡ 0 → Wrote before faults reason → Keeps shut last output got faults kept
    → RoseWhere ((reason ≡ WriteFault) ⊎ (reason_of kept ≡ WriteFault)) (shut.writes output) (last.writes output)
counted shut last output got before faults reason kept fresh wrote keeps = record {
  rose = rose kept keeps;
  calm = calm kept keeps;
}
  where
    by_itself : reason ≡ WriteFault → 0 < faults
    by_itself is = rose_from_none faults (subst (λ (n : ℕ). Rose n faults) fresh (wrote.fault is))

    rose : (kept : Result (Unit {0}) EndFault) → Keeps shut last output got faults kept → (reason ≡ WriteFault) ⊎ (reason_of kept ≡ WriteFault) → Rose (shut.writes output) (last.writes output)
    rose kept keeps (inl is) = keeps.counted (by_itself is)
    rose (Ok _) keeps (inr is) = absurd (cc is)
    rose (Err fault.Failed) keeps (inr is) = rose_earlier (shut.writes output) (shut.writes output + faults) (last.writes output) (omega arith) (keeps.failed refl)
    rose (Err fault.Memory) keeps (inr is) = absurd (cc is)

    calm : (kept : Result (Unit {0}) EndFault) → Keeps shut last output got faults kept → ((reason ≡ WriteFault) ⊎ (reason_of kept ≡ WriteFault) → ⊥) → last.writes output ≡ shut.writes output
    calm (Ok _) keeps neither = keeps.calm (wrote.calm (λ is. neither (inl is)) ∙ fresh)
    calm (Err fault.Failed) keeps neither = absurd (neither (inr refl))
    calm (Err fault.Memory) keeps neither = keeps.memory refl (wrote.calm (λ is. neither (inl is)) ∙ fresh)

pub wrote-so : (old shut last new : Said) (output : List ℕ) (got : Option (List ℕ)) (before faults : ℕ) (reason : reason.Reason) (kept : Result (Unit {0}) EndFault) → before ≡ 0 → Wrote before faults reason → Keeps shut last output got faults kept
    → shut.writes output ≡ old.writes output → new.writes output ≡ last.writes output → RoseWhere ((reason ≡ WriteFault) ⊎ (reason_of kept ≡ WriteFault)) (old.writes output) (new.writes output)
wrote-so old shut last new output got before faults reason kept fresh wrote keeps first second =
    subst (λ (n : ℕ). RoseWhere ((reason ≡ WriteFault) ⊎ (reason_of kept ≡ WriteFault)) n (new.writes output)) first
    (subst (λ (n : ℕ). RoseWhere ((reason ≡ WriteFault) ⊎ (reason_of kept ≡ WriteFault)) (shut.writes output) n) (sym second) (counted shut last output got before faults reason kept fresh wrote keeps))

-- where the keeping of a name was not refused, its file is what its output got
pub kept_file : (old new : Said) (name : List ℕ) (got : Option (List ℕ)) (kept : reason.Reason) → KeptSo old new name got kept → (Rose (old.unkept name) (new.unkept name) → ⊥) → new.file name ≡ got
kept_file old new name got Finished so calm = so.0
kept_file old new name got WriteFault so calm = absurd (calm so)
kept_file old new name got Memory so calm = absurd (calm so)
kept_file old new name got ReadFault so calm = absurd so
kept_file old new name got SessionLimit so calm = absurd so
