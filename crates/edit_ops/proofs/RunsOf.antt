-- The runs of a set's classes, from one class on.
use Rattle.std.proofs.Common.{◌≡◌, ℕ, zero, suc, ◌+◌, ◌-◌, ◌<◌, ◌≤◌, true, false, eqb, List, [], ◌∷◌, filter, refl, ap, ◌∙◌, inl, inr, arith}
use Rattle.std.specs.List.{range_with_len}
use Rattle.std.proofs.lemmas.Bool.{cases_Bool, cases_eq, eq-eqb, ne_eqb}
use Rattle.view_meaning.specs.Classes.{has}
use Rattle.edit_ops.specs.EditLine.{onto_run, runs}
use Rattle.edit_ops.specs.Reading.{members_from}

pub members_from-in : (set : List ℕ) (from : ℕ) → from < 256 → has set from ≡ true → members_from set from ≡ from ∷ members_from set (from + 1)
unfolding members_from
members_from-in set from below there =
    let more : 256 - from ≡ suc (256 - (from + 1)) = omega arith in
    rw (more, there) refl

pub members_from-out : (set : List ℕ) (from : ℕ) → from < 256 → has set from ≡ false → members_from set from ≡ members_from set (from + 1)
unfolding members_from
members_from-out set from below apart =
    let more : 256 - from ≡ suc (256 - (from + 1)) = omega arith in
    rw (more, apart) refl

pub members_from-end : (set : List ℕ) → members_from set 256 ≡ []
unfolding members_from
members_from-end set = refl

-- no run begins before a class
abbrev IsAfter : ℕ → List (ℕ × ℕ) → Type 0
IsAfter class [] = Unit {0}
IsAfter class (run ∷ others) = class ≤ run.0

onto_run-after : (class : ℕ) (others : List (ℕ × ℕ)) → IsAfter class (onto_run class others)
onto_run-after class [] = omega arith
onto_run-after class (run ∷ others) =
    elim (cases_Bool (eqb run.0 (class + 1))) as (λ _. IsAfter class (onto_run class (run ∷ others))) [
      | inl next ↦ rw next (omega arith)
      | inr apart ↦ rw apart (omega arith)
    ]

IsAfter-less : (class least : ℕ) (rs : List (ℕ × ℕ)) → least ≤ class → IsAfter class rs → IsAfter least rs
IsAfter-less class least [] low after = tt
IsAfter-less class least (run ∷ others) low after = omega arith

runs-after : (set : List ℕ) (n class : ℕ) → IsAfter class (runs (filter (has set) (range_with_len class n)))
runs-after set zero class = tt
runs-after set (suc n) class =
    elim (cases_Bool (has set class)) [
      | inl there ↦ rw there (onto_run-after class (runs (filter (has set) (range_with_len (class + 1) n))))
      | inr apart ↦ rw apart (IsAfter-less (class + 1) class _ (omega arith) (runs-after set n (class + 1)))
    ]

runs_from-after : (set : List ℕ) (class : ℕ) → IsAfter class (runs (members_from set class))
unfolding members_from
runs_from-after set class = runs-after set (256 - class) class

-- a class before runs that begin later than its neighbour is a run of its own
onto_run-alone : (class : ℕ) (others : List (ℕ × ℕ)) → IsAfter (class + 2) others → onto_run class others ≡ (class, class) ∷ others
onto_run-alone class [] after = refl
onto_run-alone class (run ∷ others) after = rw (ne_eqb run.0 (class + 1) (λ e. omega arith)) refl

-- a class before a run of its neighbours lengthens it
onto_run-next : (class last : ℕ) (others : List (ℕ × ℕ)) → onto_run class ((class + 1, last) ∷ others) ≡ (class, last) ∷ others
onto_run-next class last others = rw (eq-eqb (class + 1) (class + 1) refl) refl

last_alone : (set : List ℕ) (last : ℕ) → last < 256 → has set last ≡ true → (last < 255 → has set (last + 1) ≡ false) → runs (members_from set last) ≡ (last, last) ∷ runs (members_from set (last + 1))
last_alone set last below there ends =
    let cut : runs (members_from set last) ≡ onto_run last (runs (members_from set (last + 1))) = ap runs (members_from-in set last below there) in
    elim (cases_eq last 255) [
      | inl top ↦ cut ∙ rw (top, members_from-end) refl
      | inr more ↦
          let skipped = members_from-out set (last + 1) (omega arith) (ends (omega arith)) in
          let two : last + 1 + 1 ≡ last + 2 = omega arith in
          cut ∙ onto_run-alone last _ (rw (skipped, two) (runs_from-after set (last + 2)))
    ]

-- the first run from its first class on
run_from : (set : List ℕ) (n first last : ℕ) → first + n ≡ last → last < 256 → ((c : ℕ) → first ≤ c → c ≤ last → has set c ≡ true) → (last < 255 → has set (last + 1) ≡ false) → runs (members_from set first) ≡ (first, last) ∷ runs (members_from set (last + 1))
run_from set zero first last same below all ends =
    let here : first ≡ last = omega arith in
    rw here (last_alone set last below (all last (omega arith) (omega arith)) ends)
run_from set (suc n) first last same below all ends =
    let cut : runs (members_from set first) ≡ onto_run first (runs (members_from set (first + 1))) = ap runs (members_from-in set first (omega arith) (all first (omega arith) (omega arith))) in
    let more = run_from set n (first + 1) last (omega arith) below (λ c l h. all c (omega arith) h) ends in
    cut ∙ ap (onto_run first) more ∙ onto_run-next first last _

pub first_run : (set : List ℕ) (from first last : ℕ) → members_from set from ≡ members_from set first → first ≤ last → last < 256 → ((c : ℕ) → first ≤ c → c ≤ last → has set c ≡ true) → (last < 255 → has set (last + 1) ≡ false) → runs (members_from set from) ≡ (first, last) ∷ runs (members_from set (last + 1))
first_run set from first last skipped rises below all ends =
    ap runs skipped ∙ run_from set (last - first) first last (omega arith) below all ends
