-- What the sessions' names count once all sessions are finished in order.
use Rattle.std.proofs.Common.{◌≡◌, ◌≢◌, ℕ, zero, suc, ◌+◌, ◌*◌, ◌<◌, ◌≤◌, List, [], ◌∷◌, length, Option, refl, sym, ◌∙◌, ap, subst, arith, inl, inr, Ok, Err}
use Rattle.std.specs.Prelude.{◌⊎◌, Result, slice_get, Some}
use Rattle.sessions.specs.Listening.{Read, Wrote, reason_of}
use Rattle.sessions.specs.declared.end.Reason as reason
use Rattle.sessions.specs.declared.end.Reason.TheVariants.{ReadFault, WriteFault}
use Rattle.view_ends.specs.Desk.{Said, Untouched, IsKnown}
use Rattle.view_ends.specs.Ends.{RoseBy, NoneForgotten}
use Rattle.view_ends.specs.declared.fault.EndFault.{EndFault}
use Rattle.view_words.specs.CommandLine.{IsLine}
use Rattle.view_words.specs.declared.row.Row.TheVariants.{Serve}
use Rattle.view_words.proofs.RowNames.{ins_differ, outs_differ}
use Rattle.view_commands.specs.Run.{input, output, HasPair, KeptSo, RoseWhere}
use Rattle.view_commands.specs.Steps.{Finishes, FinishesAll, Seated}
use Rattle.view_commands.proofs.Faults.{kept-so, kept-earlier, kept-later, read-so, wrote-so}
use Rattle.view_commands.proofs.Lists.{below}

-- what the names of a session count once it is finished, by what its seat says and what came of keeping its output
pub record IsFinished (old new : Said) (input output : List ℕ) (seat : Seated) (kept : reason.Reason) : Type 0 where
  pub taken : RoseBy seat.input.taken (old.taken input) (new.taken input)
  pub opened : new.unopened input ≡ old.unopened input
  pub read : (before : ℕ) → before ≡ 0 → Read before seat.input.faults seat.end.reason → RoseWhere (seat.end.reason ≡ ReadFault) (old.reads input) (new.reads input)
  pub wrote : (before : ℕ) → before ≡ 0 → Wrote before seat.output.faults seat.end.reason → RoseWhere ((seat.end.reason ≡ WriteFault) ⊎ (kept ≡ WriteFault)) (old.writes output) (new.writes output)
  pub keeping : KeptSo old new output seat.output.got kept

-- the names of the sessions from this one on
pub record AreFinished (old new : Said) (ws : List (List ℕ)) (from : ℕ) (seats : List Seated) (kept : List reason.Reason) : Type 0 where
  pub each_kept : length kept ≡ length seats
  pub each : (k : ℕ) (seat : Seated) (one : reason.Reason) → slice_get seats k ≡ Some seat → slice_get kept k ≡ Some one → IsFinished old new (input ws (from + k)) (output ws (from + k)) seat one
  -- nothing else changed
  pub reading : (other : List ℕ) → ((k : ℕ) → k < length seats → other ≢ input ws (from + k)) → (new.taken other ≡ old.taken other) × (new.reads other ≡ old.reads other)
  pub writing : (other : List ℕ) → ((k : ℕ) → k < length seats → other ≢ output ws (from + k)) → (new.file other ≡ old.file other) × (new.writes other ≡ old.writes other) × (new.unkept other ≡ old.unkept other)
  pub opening : (other : List ℕ) → new.unopened other ≡ old.unopened other
  pub known : NoneForgotten (IsKnown old) (IsKnown new)

-- a session was finished between two states that count the same of its names
finished-between : (old mid last new : Said) (input output : List ℕ) (seat : Seated) (kept : reason.Reason)
    → mid.taken input ≡ old.taken input → mid.reads input ≡ old.reads input → mid.unopened input ≡ old.unopened input → mid.writes output ≡ old.writes output → mid.unkept output ≡ old.unkept output
    → new.taken input ≡ last.taken input → new.reads input ≡ last.reads input → new.unopened input ≡ last.unopened input → new.writes output ≡ last.writes output → new.unkept output ≡ last.unkept output → new.file output ≡ last.file output
    → Finishes mid last input output seat kept → IsFinished old new input output seat kept
finished-between old mid last new input output seat kept taken reads unopened writes unkept taken_on reads_on unopened_on writes_on unkept_on file_on finishes = record {
  taken = subst (λ (n : ℕ). RoseBy seat.input.taken n (new.taken input)) taken (subst (λ (n : ℕ). RoseBy seat.input.taken (mid.taken input) n) (sym (taken_on ∙ finishes.keeps.rest.taken input)) finishes.shuts.count);
  opened = unopened_on ∙ finishes.keeps.rest.unopened input ∙ finishes.shuts.rest.unopened input ∙ unopened;
  read = λ before fresh read. subst (λ (n : ℕ). RoseWhere (seat.end.reason ≡ ReadFault) n (new.reads input)) reads
      (read-so mid finishes.shut new input _ before seat.input.faults seat.end.reason fresh read finishes.shuts (reads_on ∙ finishes.keeps.rest.reads input));
  wrote = λ before fresh wrote. subst (λ (n : ℕ). RoseWhere ((seat.end.reason ≡ WriteFault) ⊎ (kept ≡ WriteFault)) n (new.writes output)) writes
      (subst (λ (r : reason.Reason). RoseWhere ((seat.end.reason ≡ WriteFault) ⊎ (r ≡ WriteFault)) (mid.writes output) (new.writes output)) (sym finishes.kept_is)
      (wrote-so mid finishes.shut last new output _ before seat.output.faults seat.end.reason finishes.outcome fresh wrote finishes.keeps (finishes.shuts.rest.writes output) writes_on));
  keeping = subst (λ (r : reason.Reason). KeptSo old new output seat.output.got r) (sym finishes.kept_is)
      (kept-so old finishes.shut last new output seat.output.got seat.output.faults finishes.outcome (finishes.shuts.rest.unkept output ∙ unkept) finishes.keeps unkept_on file_on);
}

-- a session that was finished, seen from a state before it that counts the same of its names
pub finished-before : (old mid new : Said) (input output : List ℕ) (seat : Seated) (kept : reason.Reason)
    → mid.taken input ≡ old.taken input → mid.reads input ≡ old.reads input → mid.unopened input ≡ old.unopened input → mid.writes output ≡ old.writes output → mid.unkept output ≡ old.unkept output
    → IsFinished mid new input output seat kept → IsFinished old new input output seat kept
finished-before old mid new input output seat kept taken reads unopened writes unkept is = record {
  taken = subst (λ (n : ℕ). RoseBy seat.input.taken n (new.taken input)) taken is.taken;
  opened = is.opened ∙ unopened;
  read = λ before fresh read. subst (λ (n : ℕ). RoseWhere (seat.end.reason ≡ ReadFault) n (new.reads input)) reads (is.read before fresh read);
  wrote = λ before fresh wrote. subst (λ (n : ℕ). RoseWhere ((seat.end.reason ≡ WriteFault) ⊎ (kept ≡ WriteFault)) n (new.writes output)) writes (is.wrote before fresh wrote);
  keeping = kept-earlier old mid new output seat.output.got kept unkept is.keeping;
}

-- the same of all sessions from this one on
pub finished-all : (ws : List (List ℕ)) (n k : ℕ) (seats : List Seated) (kept : List reason.Reason) (old new : Said) → IsLine Serve ws → length ws ≡ 4 + 2 * n → k + length seats ≤ n → FinishesAll ws k seats kept old new → AreFinished old new ws k seats kept
finished-all ws n k [] [] old new line pairs within finishes = record {
  each_kept = refl;
  each = λ j seat one is also. absurd (cc is);
  reading = λ other apart. (ap (λ (said : Said). said.taken other) finishes, ap (λ (said : Said). said.reads other) finishes);
  writing = λ other apart. (ap (λ (said : Said). said.file other) finishes, ap (λ (said : Said). said.writes other) finishes, ap (λ (said : Said). said.unkept other) finishes);
  opening = λ other. ap (λ (said : Said). said.unopened other) finishes;
  known = λ other is. subst (λ (said : Said). IsKnown said other) (sym finishes) is;
}
finished-all ws n k [] (one ∷ kept) old new line pairs within finishes = absurd finishes
finished-all ws n k (seat ∷ seats) [] old new line pairs within finishes = absurd finishes
finished-all ws n k (seat ∷ seats) (one ∷ kept) old new line pairs within finishes =
    let mid = finishes.0 in
    let first : Finishes old mid (input ws k) (output ws k) seat one = finishes.1 in
    let rest = finished-all ws n (k + 1) seats kept mid new line pairs (omega (arith, within)) finishes.2 in
    record {
      each_kept = ap (λ (m : ℕ). suc m) rest.each_kept;
      each = λ j this how is also. each mid first rest j this how is also;
      reading = λ other apart. reading mid first rest other apart;
      writing = λ other apart. writing mid first rest other apart;
      opening = λ other. rest.opening other ∙ first.keeps.rest.unopened other ∙ first.shuts.rest.unopened other;
      known = λ other is. rest.known other (first.keeps.rest.known other (first.shuts.rest.known other is));
    }
  where
    input_after : (j : ℕ) → j < length seats → input ws k ≢ input ws (k + 1 + j)
    input_after j below same = let one : k ≡ k + 1 + j = ins_differ ws n k (k + 1 + j) line pairs (omega (arith, within)) (omega (arith, within, below)) same in absurd (omega (arith, one))

    output_after : (j : ℕ) → j < length seats → output ws k ≢ output ws (k + 1 + j)
    output_after j below same = let one : k ≡ k + 1 + j = outs_differ ws n k (k + 1 + j) line pairs (omega (arith, within)) (omega (arith, within, below)) same in absurd (omega (arith, one))

    reading : (mid : Said) → Finishes old mid (input ws k) (output ws k) seat one → AreFinished mid new ws (k + 1) seats kept → (other : List ℕ) → ((j : ℕ) → j < length (seat ∷ seats) → other ≢ input ws (k + j))
        → (new.taken other ≡ old.taken other) × (new.reads other ≡ old.reads other)
    reading mid first rest other apart =
        let later = rest.reading other (λ j below same. apart (suc j) (omega (arith, below)) (same ∙ ap (input ws) (omega arith))) in
        let here : other ≢ input ws k = λ same. apart 0 (omega arith) (same ∙ ap (input ws) (omega arith)) in (
          later.0 ∙ first.keeps.rest.taken other ∙ first.shuts.other_counts other here,
          later.1 ∙ first.keeps.rest.reads other ∙ first.shuts.others other here,
        )

    writing : (mid : Said) → Finishes old mid (input ws k) (output ws k) seat one → AreFinished mid new ws (k + 1) seats kept → (other : List ℕ) → ((j : ℕ) → j < length (seat ∷ seats) → other ≢ output ws (k + j))
        → (new.file other ≡ old.file other) × (new.writes other ≡ old.writes other) × (new.unkept other ≡ old.unkept other)
    writing mid first rest other apart =
        let later = rest.writing other (λ j below same. apart (suc j) (omega (arith, below)) (same ∙ ap (output ws) (omega arith))) in
        let here : other ≢ output ws k = λ same. apart 0 (omega arith) (same ∙ ap (output ws) (omega arith)) in (
          later.0 ∙ first.keeps.files other here ∙ first.shuts.rest.files other,
          later.1 ∙ first.keeps.others other here ∙ first.shuts.rest.writes other,
          later.2 ∙ first.keeps.other_refusals other here ∙ first.shuts.rest.unkept other,
        )

    each : (mid : Said) → Finishes old mid (input ws k) (output ws k) seat one → AreFinished mid new ws (k + 1) seats kept
        → (j : ℕ) (this : Seated) (how : reason.Reason) → slice_get (seat ∷ seats) j ≡ Some this → slice_get (one ∷ kept) j ≡ Some how → IsFinished old new (input ws (k + j)) (output ws (k + j)) this how
    each mid first rest zero this how is also =
        let same_seat : seat ≡ this = cc is in
        let same_one : one ≡ how = cc also in
        let reads = rest.reading (input ws k) input_after in
        let writes = rest.writing (output ws k) output_after in
        let here : IsFinished old new (input ws k) (output ws k) seat one = finished-between old old mid new (input ws k) (output ws k) seat one refl refl refl refl refl reads.0 reads.1 (rest.opening (input ws k)) writes.1 writes.2 writes.0 first in
        subst (λ (m : ℕ). IsFinished old new (input ws m) (output ws m) this how) (omega arith)
        (subst (λ (s : Seated). IsFinished old new (input ws k) (output ws k) s how) same_seat (subst (λ (r : reason.Reason). IsFinished old new (input ws k) (output ws k) seat r) same_one here))
    each mid first rest (suc j) this how is also =
        let within_j : j < length seats = below seats j this is in
        let later = rest.each j this how is also in
        let place : k + 1 + j ≡ k + suc j = omega arith in
        let input_is : input ws (k + 1 + j) ≢ input ws k = λ same. input_after j within_j (sym same) in
        let output_is : output ws (k + 1 + j) ≢ output ws k = λ same. output_after j within_j (sym same) in
        subst (λ (m : ℕ). IsFinished old new (input ws m) (output ws m) this how) place
        (finished-before old mid new (input ws (k + 1 + j)) (output ws (k + 1 + j)) this how
        (first.keeps.rest.taken (input ws (k + 1 + j)) ∙ first.shuts.other_counts (input ws (k + 1 + j)) input_is)
        (first.keeps.rest.reads (input ws (k + 1 + j)) ∙ first.shuts.others (input ws (k + 1 + j)) input_is)
        (first.keeps.rest.unopened (input ws (k + 1 + j)) ∙ first.shuts.rest.unopened (input ws (k + 1 + j)))
        (first.keeps.others (output ws (k + 1 + j)) output_is ∙ first.shuts.rest.writes (output ws (k + 1 + j)))
        (first.keeps.other_refusals (output ws (k + 1 + j)) output_is ∙ first.shuts.rest.unkept (output ws (k + 1 + j)))
        later)

-- a session that was finished, seen from a state after it that counts the same of its names
pub finished-after : (old last new : Said) (input output : List ℕ) (seat : Seated) (kept : reason.Reason)
    → new.taken input ≡ last.taken input → new.reads input ≡ last.reads input → new.unopened input ≡ last.unopened input → new.writes output ≡ last.writes output → new.unkept output ≡ last.unkept output → new.file output ≡ last.file output
    → IsFinished old last input output seat kept → IsFinished old new input output seat kept
finished-after old last new input output seat kept taken reads unopened writes unkept file is = record {
  taken = subst (λ (n : ℕ). RoseBy seat.input.taken (old.taken input) n) (sym taken) is.taken;
  opened = unopened ∙ is.opened;
  read = λ before fresh read. subst (λ (n : ℕ). RoseWhere (seat.end.reason ≡ ReadFault) (old.reads input) n) (sym reads) (is.read before fresh read);
  wrote = λ before fresh wrote. subst (λ (n : ℕ). RoseWhere ((seat.end.reason ≡ WriteFault) ⊎ (kept ≡ WriteFault)) (old.writes output) n) (sym writes) (is.wrote before fresh wrote);
  keeping = kept-later old last new output seat.output.got kept unkept file is.keeping;
}
