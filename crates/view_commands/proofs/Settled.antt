-- How a `serve` ends where nothing outside failed.
use Rattle.std.proofs.Common.{◌≡◌, ◌≢◌, ℕ, zero, suc, ◌+◌, ◌<◌, ◌≤◌, Bool, List, [], ◌∷◌, length, map, take, refl, sym, ◌∙◌, ap, subst, arith, inl, inr}
use Rattle.std.specs.Prelude.{◌⊎◌, IsTrue, min, Option, Some, IfSome, slice_get}
use Rattle.std.proofs.lemmas.List.{length-take}
use Rattle.std.proofs.lemmas.Bool.Decides.{nat_tests}
use Rattle.sessions.specs.declared.serving.TheConstants.{INPUT_LIMIT}
use Rattle.sessions.specs.declared.end.Reason as reason
use Rattle.sessions.specs.declared.end.Reason.TheVariants.{Finished, ReadFault, SessionLimit, WriteFault, Memory}
use Rattle.sessions.specs.declared.end.SessionEnd.{SessionEnd}
use Rattle.sessions.specs.Session.{Item, Processed}
use Rattle.version_store.specs.declared.history.Entry.{Entry}
use Rattle.view_base.specs.Fitting.{word_at}
use Rattle.view_ends.specs.Desk.{Said}
use Rattle.view_ends.specs.Ends.{Rose}
use Rattle.view_commands.specs.declared.places.TheConstants.{JOURNAL, INPUT}
use Rattle.view_commands.specs.declared.status.Status as status
use Rattle.view_commands.specs.declared.status.Status.TheVariants as state
use Rattle.view_commands.specs.declared.told.Ended as told
use Rattle.view_commands.specs.Run.{input, output, HasPair, IsCalm, KeptSo, RunsSession, RunsSessions, NotOpened, first_fault, status_at}
use Rattle.view_commands.specs.Texts.{KeepsText}
use Rattle.view_commands.proofs.Lists.{at-within, below, map_slice_get, slice_get-map}

-- a reason of no fault from outside
abbrev IsQuiet : reason.Reason → Type 0
IsQuiet reason = (reason ≡ Finished) ⊎ (reason ≡ Memory)

abbrev EndsQuiet : status.Status → Type 0
EndsQuiet status = (status ≡ state.Done) ⊎ (status ≡ state.Memory)

quiet-first : (at : ℕ) (reasons : List reason.Reason) (last : status.Status) → ((k : ℕ) (one : reason.Reason) → slice_get reasons k ≡ Some one → IsQuiet one) → EndsQuiet last → EndsQuiet (first_fault at reasons last)
quiet-first at [] last each rest = rest
quiet-first at (one ∷ others) last each rest = first one (each 0 one refl) (quiet-first (at + 2) others last (λ k other is. each (suc k) other is) rest)
  where
    first : (one : reason.Reason) → IsQuiet one → EndsQuiet (first_fault (at + 2) others last) → EndsQuiet (first_fault at (one ∷ others) last)
    first Finished quiet later = later
    first Memory quiet later = inr refl
    first ReadFault (inl is) later = absurd (cc is)
    first ReadFault (inr is) later = absurd (cc is)
    first SessionLimit (inl is) later = absurd (cc is)
    first SessionLimit (inr is) later = absurd (cc is)
    first WriteFault (inl is) later = absurd (cc is)
    first WriteFault (inr is) later = absurd (cc is)

input_is : (left : Option (List ℕ)) (input i : List ℕ) → left ≡ Some i → IfSome left (λ all. all ≡ input) → i ≡ input
input_is left input i is told = subst (λ (left : Option (List ℕ)). IfSome left (λ all. all ≡ input)) is told

-- a session took no more than there was
too_few : (taken n : ℕ) → taken ≤ n → taken ≡ INPUT_LIMIT + 1 → n ≤ INPUT_LIMIT → ⊥
too_few taken n came limit few = absurd (omega (arith, came, limit, few))

session-quiet : (tells : Bool) (old new : Said) (ws : List (List ℕ)) (b : List ℕ) (h : List Entry) (k : ℕ) (end : SessionEnd) (kept : reason.Reason) → IsTrue tells → RunsSession tells old new ws b h k end kept → IsCalm old new ws k → IsQuiet end.reason × IsQuiet kept
session-quiet tells old new ws b h k end kept tell runs calm = (quiet end.reason refl, kept_quiet kept runs.keeping refl)
  where
    full : (i : List ℕ) → runs.left ≡ Some i → length i ≤ INPUT_LIMIT → end.reason ≡ SessionLimit → ⊥
    full i is few limit =
        let same : i ≡ runs.served.input = input_is runs.left runs.served.input i is runs.served.input_is in
        let sizes : length i ≡ length runs.served.input = ap (λ (l : List ℕ). length l) same in
        too_few end.taken (length runs.served.input) runs.served.processed.came (runs.served.processed.limit.0 limit) (subst (λ (n : ℕ). n ≤ INPUT_LIMIT) sizes few)

    short : end.reason ≡ SessionLimit → ⊥
    short limit = full calm.few.0 (runs.script (λ j below same. full [] (runs.emptied tell j below same) (omega arith) limit) ∙ calm.few.1) calm.few.2 limit

    quiet : (reason : reason.Reason) → end.reason ≡ reason → IsQuiet end.reason
    quiet Finished is = inl is
    quiet Memory is = inr is
    quiet ReadFault is = absurd (calm.read (runs.read.rose is))
    quiet SessionLimit is = absurd (short is)
    quiet WriteFault is = absurd (calm.written (runs.wrote.rose (inl is)))

    kept_quiet : (reason : reason.Reason) → KeptSo old new (output ws k) runs.got reason → kept ≡ reason → IsQuiet kept
    kept_quiet Finished so is = inl is
    kept_quiet Memory so is = inr is
    kept_quiet ReadFault so is = absurd so
    kept_quiet SessionLimit so is = absurd so
    kept_quiet WriteFault so is = absurd (calm.written (runs.wrote.rose (inr is)))

journal-quiet : (tells : Bool) (old new : Said) (name bytes : List ℕ) (reason : reason.Reason) → KeepsText tells old new name bytes reason → (Rose (old.writes name) (new.writes name) → ⊥) → EndsQuiet (status_at JOURNAL JOURNAL reason)
journal-quiet tells old new name bytes Finished so calm = inl refl
journal-quiet tells old new name bytes Memory so calm = inr refl
journal-quiet tells old new name bytes ReadFault so calm = absurd so
journal-quiet tells old new name bytes SessionLimit so calm = absurd so
journal-quiet tells old new name bytes WriteFault so calm = absurd (calm so.1)

-- sessions that ran, where nothing outside failed
pub sessions-settle : (tells : Bool) (old new : Said) (ws : List (List ℕ)) (b : List ℕ) (ended : told.Ended) → IsTrue tells → RunsSessions tells old new ws b ended → ((k : ℕ) → HasPair ws k → IsCalm old new ws k) → (Rose (old.writes (word_at ws JOURNAL)) (new.writes (word_at ws JOURNAL)) → ⊥)
    → (ended.status ≡ state.Done) ⊎ (ended.status ≡ state.Memory)
sessions-settle tells old new ws b ended tell runs calm journal =
    subst EndsQuiet (sym runs.status) (quiet-first INPUT _ _ reasons (quiet-first INPUT runs.kept _ keepings (journal-quiet tells old new (word_at ws JOURNAL) _ ended.told.journal runs.journal_file journal)))
  where
    pair : (k : ℕ) → k < length ended.told.sessions.items → HasPair ws k
    pair k within = omega (arith, within, runs.pairs)

    both : (k : ℕ) (end : SessionEnd) (kept : reason.Reason) → slice_get ended.told.sessions.items k ≡ Some end → slice_get runs.kept k ≡ Some kept → IsQuiet end.reason × IsQuiet kept
    both k end kept is also = session-quiet tells old new ws b ended.told.history.items k end kept tell (runs.sessions k end kept is also) (calm k (pair k (below ended.told.sessions.items k end is)))

    reasons : (k : ℕ) (one : reason.Reason) → slice_get (map (λ (end : SessionEnd). end.reason) ended.told.sessions.items) k ≡ Some one → IsQuiet one
    reasons k one is =
        let found = slice_get-map (λ (end : SessionEnd). end.reason) ended.told.sessions.items k one is in
        let kept = at-within runs.kept k (let inside = below ended.told.sessions.items k found.0 found.1 in omega (arith, inside, runs.each_kept)) in
        subst IsQuiet (sym found.2) (both k found.0 kept.0 found.1 kept.1).0

    keepings : (k : ℕ) (one : reason.Reason) → slice_get runs.kept k ≡ Some one → IsQuiet one
    keepings k one is =
        let end = at-within ended.told.sessions.items k (let inside = below runs.kept k one is in omega (arith, inside, runs.each_kept)) in
        (both k end.0 one end.1 is).1

-- a refused opening, where nothing outside failed, is want of memory
pub not_opened-settles : (old new : Said) (ws : List (List ℕ)) (n : ℕ) (status : status.Status) → NotOpened old new ws n status → ((k : ℕ) → HasPair ws k → IsCalm old new ws k) → (Rose (old.writes (word_at ws JOURNAL)) (new.writes (word_at ws JOURNAL)) → ⊥)
    → (status ≡ state.Done) ⊎ (status ≡ state.Memory)
not_opened-settles old new ws n (state.OpenFault at) (inl none) calm journal = absurd ((calm n none.1).opened (subst (λ (m : ℕ). Rose (old.unopened (word_at ws m)) (new.unopened (word_at ws m))) none.0 none.2))
not_opened-settles old new ws n (state.OpenFault at) (inr (inl pair, rose, rest)) calm journal = absurd ((calm n pair.1).written (subst (λ (m : ℕ). Rose (old.writes (word_at ws m)) (new.writes (word_at ws m))) pair.0 rose))
not_opened-settles old new ws n (state.OpenFault at) (inr (inr all, rose, rest)) calm journal = absurd (journal (subst (λ (m : ℕ). Rose (old.writes (word_at ws m)) (new.writes (word_at ws m))) all.0 rose))
not_opened-settles old new ws n state.Memory none calm journal = inr refl
not_opened-settles old new ws n state.Done none calm journal = absurd none
not_opened-settles old new ws n (state.Words at) none calm journal = absurd none
not_opened-settles old new ws n (state.Limit limit) none calm journal = absurd none
not_opened-settles old new ws n (state.NoColour format) none calm journal = absurd none
not_opened-settles old new ws n (state.ReadFault at) none calm journal = absurd none
not_opened-settles old new ws n state.TooLong none calm journal = absurd none
not_opened-settles old new ws n (state.Survey told) none calm journal = absurd none
not_opened-settles old new ws n (state.WriteFault at) none calm journal = absurd none
not_opened-settles old new ws n (state.SessionLimit at) none calm journal = absurd none

finished-first : (at : ℕ) (reasons : List reason.Reason) (last : status.Status) → first_fault at reasons last ≡ state.Done → (k : ℕ) (one : reason.Reason) → slice_get reasons k ≡ Some one → one ≡ Finished
finished-first at [] last done k one is = absurd (cc is)
finished-first at (Finished ∷ others) last done zero one is = sym (cc is)
finished-first at (Finished ∷ others) last done (suc k) one is = finished-first (at + 2) others last done k one is
finished-first at (ReadFault ∷ others) last done k one is = absurd (cc done)
finished-first at (SessionLimit ∷ others) last done k one is = absurd (cc done)
finished-first at (WriteFault ∷ others) last done k one is = absurd (cc done)
finished-first at (Memory ∷ others) last done k one is = absurd (cc done)

finished-whole : (format : ℕ) (input : List ℕ) (taken : ℕ) (reason : reason.Reason) (items : List Item) → reason ≡ Finished → Processed format input taken reason items → taken ≡ length input
finished-whole format input taken Finished items is processed =
    let all : take (min taken INPUT_LIMIT) input ≡ input = processed.items_are.0 in
    let size : min (min taken INPUT_LIMIT) (length input) ≡ length input = sym (length-take (min taken INPUT_LIMIT) input) ∙ ap (λ (l : List ℕ). length l) all in
    whole taken (length input) processed.came size
  where
    whole : (a b : ℕ) → a ≤ b → min (min a INPUT_LIMIT) b ≡ b → a ≡ b
    whole a b le size = grind (arith, nat_tests)
finished-whole format input taken ReadFault items is processed = absurd (cc is)
finished-whole format input taken SessionLimit items is processed = absurd (cc is)
finished-whole format input taken WriteFault items is processed = absurd (cc is)
finished-whole format input taken Memory items is processed = absurd (cc is)

-- where all was done, every session finished and took its whole input
pub done-whole : (tells : Bool) (old new : Said) (ws : List (List ℕ)) (b : List ℕ) (ended : told.Ended) (k : ℕ) (end : SessionEnd) → RunsSessions tells old new ws b ended → ended.status ≡ state.Done → slice_get ended.told.sessions.items k ≡ Some end
    → (end.reason ≡ Finished) × ((i : List ℕ) → ((j : ℕ) → j < k → output ws j ≢ input ws k) → old.file (input ws k) ≡ Some i → end.taken ≡ length i)
done-whole tells old new ws b ended k end runs done is =
    let finished : end.reason ≡ Finished = finished-first INPUT (map (λ (end : SessionEnd). end.reason) ended.told.sessions.items) _ (sym runs.status ∙ done) k end.reason (map_slice_get (λ (end : SessionEnd). end.reason) ended.told.sessions.items k end is) in
    let kept = at-within runs.kept k (let inside = below ended.told.sessions.items k end is in omega (arith, inside, runs.each_kept)) in
    let session = runs.sessions k end kept.0 is kept.1 in (
      finished,
      λ i apart file.
          let same : i ≡ session.served.input = input_is session.left session.served.input i (session.script apart ∙ file) session.served.input_is in
          finished-whole _ session.served.input end.taken end.reason session.served.items finished session.served.processed ∙ sym (ap (λ (l : List ℕ). length l) same),
    )
