-- What a call on a shared store adds to the entries of its pass. These laws are for callers.
use Rattle.std.proofs.Common.{◌≡◌, ℕ, ◌+◌, Bool, true, false, cond, eqb, List, [], ◌∷◌, ◌++◌, length, refl, sym, ap, ◌∙◌, arith, append-nil, length-append}
use Rattle.std.proofs.lemmas.Bool.{eq-eqb}
use Rattle.std.proofs.lemmas.List.{append_cancel_right}
use Rattle.std.proofs.lemmas.List.Sums.{sum_by-append}
use mathlib.Core.List.{IsPrefix}
use Rattle.turn_gate.specs.Meaning.{Passed, made_by}
use Rattle.turn_gate.proofs.Makers.{made_by-append, made_by_own}
use Rattle.view_meaning.specs.Classes as meaning
use Rattle.version_store.specs.declared.history.What.{What}
use Rattle.version_store.specs.declared.history.What.TheVariants.{Pin}
use Rattle.version_store.specs.declared.history.Entry.{Entry}
use Rattle.version_store.specs.Histories.{edit_in, journal, numbered, entries_by, is_pin, is_unpin, how_many, HasPinned}
use Rattle.version_store.specs.Sharing.{maker, IsOwn, MakesOne, MakesNone}
use Rattle.version_store.proofs.HistoryLaws.{journal-append, entries_by-append, how_many_by}
use Rattle.version_store.proofs.PinsOut.{legal-given}

-- nothing is added to a list that stays as it was
none_added : {A : Type 0} (xs ys : List A) → xs ++ ys ≡ xs → ys ≡ []
none_added [] ys same = same
none_added (x ∷ xs) ys same = none_added xs ys (cc same)

-- the numbered entries of a caller that made none
entries_by-none : (who n : ℕ) (h : List Entry) → made_by maker who h ≡ [] → entries_by who (numbered n h) ≡ []
unfolding numbered
entries_by-none who n [] none = refl
entries_by-none who n (entry ∷ h) none =
    let next = n + length (edit_in entry.what) in
    first (eqb entry.who who) next none (entries_by-none who next h)
  where
    first : (own : Bool) (next : ℕ) → cond own (entry ∷ made_by maker who h) (made_by maker who h) ≡ []
        → (made_by maker who h ≡ [] → entries_by who (numbered next h) ≡ [])
        → cond own ((entry, next) ∷ entries_by who (numbered next h)) (entries_by who (numbered next h)) ≡ []
    first true next none rest = absurd (cc none)
    first false next none rest = rest none

-- a longer history in which a caller made no more entries
pub entries_by-later : (who : ℕ) (h later : List Entry) → IsPrefix h later → made_by maker who h ≡ made_by maker who later
    → entries_by who (numbered 0 later) ≡ entries_by who (numbered 0 h)
entries_by-later who h later begins same =
    let others = begins.0 in
    let all : made_by maker who h ++ made_by maker who others ≡ made_by maker who h = sym (made_by-append maker who h others) ∙ ap (made_by maker who) begins.1 ∙ sym same in
    let none : made_by maker who others ≡ [] = none_added (made_by maker who h) (made_by maker who others) all in
    ap (λ (l : List Entry). entries_by who (numbered 0 l)) (sym begins.1)
    ∙ entries_by-append who h others
    ∙ rw (entries_by-none who (length (journal h)) others none) (append-nil (entries_by who (numbered 0 h)))

-- what a caller has pinned stays so while it makes no entry
pub HasPinned-later : (who v : ℕ) (h later mine : List Entry) → IsPrefix h later → made_by maker who h ≡ mine → made_by maker who later ≡ mine → HasPinned h who v → HasPinned later who v
HasPinned-later who v h later mine begins before after pinned =
    rw (entries_by-later who h later begins (before ∙ sym after)) pinned

-- how many edits are published once one more entry is made
pub length-journal_one : (h : List Entry) (entry : Entry) → length (journal (h ++ entry ∷ [])) ≡ length (journal h) + length (edit_in entry.what)
unfolding journal
length-journal_one h entry =
    ap length (journal-append h (entry ∷ []) ∙ ap (λ (l : List meaning.Edit). journal h ++ l) (append-nil (edit_in entry.what)))
    ∙ length-append (journal h) (edit_in entry.what)

entries_by-one : (who n : ℕ) (entry : Entry) → entry.who ≡ who → entries_by who (numbered n (entry ∷ [])) ≡ (entry, n + length (edit_in entry.what)) ∷ []
unfolding numbered
entries_by-one who n entry own = rw (eq-eqb entry.who who own) refl

-- a call made one entry
module _ (what : What) (old new : Passed Entry) (before : IsOwn old) (after : IsOwn new) (made : MakesOne what old new) where
  abbrev entry : Entry
  entry = record { who = old.who; what = what }

  same_caller : new.who ≡ old.who
  same_caller = ap (λ (p : Passed Entry). p.who) made.pass

  made_before : made_by maker old.who (old.seen ++ made.others) ≡ old.mine
  made_before =
      let before_it = old.seen ++ made.others in
      let mine : new.mine ≡ old.mine ++ entry ∷ [] = ap (λ (p : Passed Entry). p.mine) made.pass in
      let all : made_by maker old.who new.seen ≡ old.mine ++ entry ∷ [] = ap (λ (who : ℕ). made_by maker who new.seen) (sym same_caller) ∙ after.own ∙ mine in
      let last : made_by maker old.who new.seen ≡ made_by maker old.who before_it ++ entry ∷ [] = ap (made_by maker old.who) made.seen ∙ made_by_own maker old.who before_it entry refl in
      append_cancel_right (made_by maker old.who before_it) old.mine (entry ∷ []) (sym last ∙ all)

  -- the entries between are others'
  pub others_apart : made_by maker old.who made.others ≡ []
  others_apart =
      none_added (made_by maker old.who old.seen) (made_by maker old.who made.others)
      (sym (made_by-append maker old.who old.seen made.others) ∙ made_before ∙ sym before.own)

  -- the caller's entries are those of before and this one, with the number of edits that were published up to it
  pub entries_by-made : entries_by old.who (numbered 0 new.seen) ≡ entries_by old.who (numbered 0 old.seen) ++ (entry, length (journal new.seen)) ∷ []
  entries_by-made =
      let before_it = old.seen ++ made.others in
      let later = entries_by-later old.who old.seen before_it (made.others, refl) (before.own ∙ sym made_before) in
      let next = length (journal before_it) + length (edit_in entry.what) in
      let edits : next ≡ length (journal new.seen) = sym (ap (λ (h : List Entry). length (journal h)) made.seen ∙ length-journal_one before_it entry) in
      ap (λ (h : List Entry). entries_by old.who (numbered 0 h)) made.seen
      ∙ entries_by-append old.who before_it (entry ∷ [])
      ∙ rw (later, entries_by-one old.who (length (journal before_it)) entry refl, edits) refl

  -- how many of them are such
  pub how_many_by-made : (test : What → ℕ → Bool) → how_many_by test old.who new.seen ≡ how_many_by test old.who old.seen + cond (test what (length (journal new.seen))) 1 0
  how_many_by-made test =
      let n = length (journal new.seen) in
      let one : how_many test ((entry, n) ∷ []) ≡ cond (test what n) 1 0 = omega arith in
      ap (how_many test) entries_by-made
      ∙ sum_by-append (λ (at : Entry × ℕ). cond (test at.0.what at.1) 1 0) (entries_by old.who (numbered 0 old.seen)) ((entry, n) ∷ [])
      ∙ ap (λ (m : ℕ). how_many_by test old.who old.seen + m) one

-- what a caller has just pinned it may give back
pub HasPinned-pin : (old new : Passed Entry) → IsOwn old → IsOwn new → MakesOne Pin old new → HasPinned new.seen old.who (length (journal new.seen))
HasPinned-pin old new before after made =
    let v = length (journal new.seen) in
    let one : ◌≡◌ {A = ℕ} (cond (is_pin v Pin v) 1 0) 1 = rw (eq-eqb v v refl) refl in
    omega (arith, one, how_many_by-made Pin old new before after made (is_pin v), how_many_by-made Pin old new before after made (is_unpin v), legal-given old.seen old.who v before.legal)

-- a call that made no entry leaves its caller's entries
pub entries_by-refused : (old new : Passed Entry) → IsOwn old → IsOwn new → MakesNone old new → entries_by old.who (numbered 0 new.seen) ≡ entries_by old.who (numbered 0 old.seen)
entries_by-refused old new before after none =
    let who : new.who ≡ old.who = ap (λ (p : Passed Entry). p.who) none.pass in
    let mine : new.mine ≡ old.mine = ap (λ (p : Passed Entry). p.mine) none.pass in
    entries_by-later old.who old.seen new.seen none.seen
    (before.own ∙ sym mine ∙ sym after.own ∙ ap (λ (n : ℕ). made_by maker n new.seen) who)

-- and in the words of the call that takes the pin
pub HasPinned-shown : (old new : Passed Entry) (v : ℕ) → IsOwn old → IsOwn new → MakesOne Pin old new → v ≡ length (journal new.seen) → HasPinned new.seen new.who v
HasPinned-shown old new v before after made is =
    let who : new.who ≡ old.who = ap (λ (p : Passed Entry). p.who) made.pass in
    rw (who, is) (HasPinned-pin old new before after made)
