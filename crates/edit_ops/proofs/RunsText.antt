-- The text of runs of classes, read again as their ranges.
use Rattle.std.proofs.Common.{◌≡◌, ℕ, zero, suc, ◌+◌, ◌≤◌, Bool, true, false, ◌&&◌, ◌||◌, eqb, leb, ltb, Some, List, [], ◌∷◌, ◌++◌, length, get_or, take, drop, map, filter, refl, sym, ap, ◌∙◌, inl, inr, arith, decimal}
use Rattle.std.specs.List.{All, list_any, position_or_len, range_with_len}
use Rattle.std.proofs.lemmas.Bool.{cases_Bool, cases_eq, eqb-true, eq-eqb, ne_eqb, le-leb, lt-leb, lt-ltb, le-ltb, cases_lt, and_right}
use Rattle.std.proofs.lemmas.List.{take_at, drop_at, drop-drop}
use Rattle.std.proofs.lemmas.List.Folds.{list_any_none}
use Rattle.view_meaning.specs.Classes.{has}
use Rattle.class_bits.specs.ClassSet.{is_dash, in_ranges, range_of, item_range, item_ranges}
use Rattle.edit_ops.specs.EditLine.{onto_run, runs, run_text}
use Rattle.edit_ops.proofs.NumberText.{digit_at, digits-decimal}

-- runs that do not fall and end at 255 at most
abbrev pub AreRanges : List (ℕ × ℕ) → Type 0
AreRanges [] = Unit {0}
AreRanges (run ∷ others) = ((run.0 ≤ run.1) × (run.1 ≤ 255)) × AreRanges others

no_dash : (n : ℕ) → n ≤ 255 → All (λ c. is_dash c ≡ false) (decimal n)
no_dash n low k d inside =
    let digit = digit_at n k d (omega arith) inside in
    ne_eqb (get_or (decimal n) k d) 45 (λ e. omega (arith, digit.0))

-- the first dash stands after the digits before it
first_dash : (ds rest : List ℕ) → All (λ c. is_dash c ≡ false) ds → position_or_len is_dash (ds ++ 45 ∷ rest) ≡ length ds
first_dash [] rest clear = refl
first_dash (d ∷ ds) rest clear =
    let here : is_dash d ≡ false = clear 0 0 (omega arith) in
    let more = first_dash ds rest (λ k e inside. clear (suc k) e (omega arith)) in
    rw here (omega (arith, more))

has_dash : (ds rest : List ℕ) → list_any is_dash (ds ++ 45 ∷ rest) ≡ true
has_dash [] rest = refl
has_dash (d ∷ ds) rest = elim (cases_Bool (is_dash d)) [ inl here ↦ rw here refl | inr apart ↦ rw apart (has_dash ds rest) ]

range_of-rising : (a b : ℕ) → a ≤ b → b ≤ 255 → range_of (Some a) (Some b) ≡ Some (a, b)
range_of-rising a b rises low = rw (le-leb a b rises, le-leb b 255 low) refl

item_range-one : (a : ℕ) → a ≤ 255 → item_range (decimal a) ≡ Some (a, a)
unfolding item_range
item_range-one a low =
    rw (list_any_none is_dash (decimal a) (no_dash a low), digits-decimal a (omega arith)) (range_of-rising a a (omega arith) low)

item_range-two : (a b : ℕ) → a ≤ b → b ≤ 255 → item_range (decimal a ++ 45 ∷ decimal b) ≡ Some (a, b)
unfolding item_range
item_range-two a b rises low =
    let place = first_dash (decimal a) (decimal b) (no_dash a (omega arith)) in
    let before : take (length (decimal a)) (decimal a ++ 45 ∷ decimal b) ≡ decimal a = take_at (decimal a) (45 ∷ decimal b) _ refl in
    let after : drop (length (decimal a) + 1) (decimal a ++ 45 ∷ decimal b) ≡ decimal b = sym (drop-drop 1 (length (decimal a)) (decimal a ++ 45 ∷ decimal b)) ∙ ap (drop 1) (drop_at (decimal a) (45 ∷ decimal b) _ refl) in
    rw (has_dash (decimal a) (decimal b), place, before, after, digits-decimal a (omega arith), digits-decimal b (omega arith)) (range_of-rising a b rises low)

pub item_range-run_text : (run : ℕ × ℕ) → run.0 ≤ run.1 → run.1 ≤ 255 → item_range (run_text run) ≡ Some run
item_range-run_text run rises low =
    elim (cases_Bool (eqb run.0 run.1)) [
      | inl same ↦ rw same (item_range-one run.0 (omega arith) ∙ ap (λ last. Some (run.0, last)) (eqb-true run.0 run.1 same))
      | inr apart ↦ rw apart (item_range-two run.0 run.1 rises low)
    ]

pub item_ranges-run_texts : (rs : List (ℕ × ℕ)) → AreRanges rs → item_ranges (map run_text rs) ≡ Some rs
item_ranges-run_texts [] are = refl
item_ranges-run_texts (run ∷ rs) are = rw (item_range-run_text run are.0.0 are.0.1, item_ranges-run_texts rs are.1) refl

-- the runs of rising classes are ranges
onto_run-ranges : (class : ℕ) (rs : List (ℕ × ℕ)) → class ≤ 255 → AreRanges rs → AreRanges (onto_run class rs)
onto_run-ranges class [] low are = ((omega arith, low), tt)
onto_run-ranges class (run ∷ rs) low are =
    elim (cases_Bool (eqb run.0 (class + 1))) as (λ _. AreRanges (onto_run class (run ∷ rs))) [
      | inl next ↦ let same = eqb-true run.0 (class + 1) next in rw next ((omega (arith, are.0.0), are.0.1), are.1)
      | inr apart ↦ rw apart ((omega arith, low), are)
    ]

-- a class lies between a class and a later one where it is the first or lies after it
between_more : (class last c : ℕ) → class ≤ last → (leb class c && leb c last) ≡ (eqb c class || (leb (class + 1) c && leb c last))
between_more class last c rises =
    elim (cases_eq c class) [
      | inl same ↦ rw (eq-eqb c class same, le-leb class c (omega arith), le-leb c last (omega arith)) refl
      | inr other ↦ elim (cases_lt c class) [
        | inl below ↦ rw (ne_eqb c class other, lt-leb class c below, lt-leb (class + 1) c (omega arith)) refl
        | inr above ↦ rw (ne_eqb c class other, le-leb class c above, le-leb (class + 1) c (omega arith)) refl
      ]
    ]

between_self : (class c : ℕ) → (leb class c && leb c class) ≡ eqb c class
between_self class c =
    elim (cases_eq c class) [
      | inl same ↦ rw (eq-eqb c class same, le-leb class c (omega arith), le-leb c class (omega arith)) refl
      | inr other ↦ elim (cases_lt c class) [
        | inl below ↦ rw (ne_eqb c class other, lt-leb class c below) refl
        | inr above ↦ rw (ne_eqb c class other, le-leb class c above, lt-leb c class (omega arith)) refl
      ]
    ]

or_assoc : (a b c : Bool) → ((a || b) || c) ≡ (a || (b || c))
or_assoc true b c = refl
or_assoc false b c = refl

-- which classes lie in the runs with one class more before them
in_ranges-onto_run : (class : ℕ) (rs : List (ℕ × ℕ)) (c : ℕ) → AreRanges rs → in_ranges (onto_run class rs) c ≡ (eqb c class || in_ranges rs c)
in_ranges-onto_run class [] c are = ap (λ b. b || false) (between_self class c)
in_ranges-onto_run class (run ∷ rs) c are =
    elim (cases_Bool (eqb run.0 (class + 1))) [
      | inl next ↦
          let same = eqb-true run.0 (class + 1) next in
          rw next (ap (λ b. b || in_ranges rs c) (between_more class run.1 c (omega (arith, are.0.0, same))) ∙ or_assoc (eqb c class) (leb (class + 1) c && leb c run.1) (in_ranges rs c) ∙ rw same refl)
      | inr apart ↦ rw apart (ap (λ b. b || in_ranges (run ∷ rs) c) (between_self class c))
    ]

pub runs-ranges : (set : List ℕ) (n from : ℕ) → from + n ≤ 256 → AreRanges (runs (filter (has set) (range_with_len from n)))
runs-ranges set zero from low = tt
runs-ranges set (suc n) from low =
    elim (cases_Bool (has set from)) [
      | inl there ↦ rw there (onto_run-ranges from _ (omega arith) (runs-ranges set n (from + 1) (omega arith)))
      | inr apart ↦ rw apart (runs-ranges set n (from + 1) (omega arith))
    ]

-- from another class on, a class lies in a range where it lies in what is left
range_step : (c from n : ℕ) → (c ≡ from → ⊥) → (leb from c && ltb c (from + suc n)) ≡ (leb (from + 1) c && ltb c (from + 1 + n))
range_step c from n other =
    let same : from + suc n ≡ from + 1 + n = omega arith in
    elim (cases_lt c from) [
      | inl below ↦ rw (lt-leb from c below, lt-leb (from + 1) c (omega arith)) refl
      | inr above ↦ rw (le-leb from c above, le-leb (from + 1) c (omega arith), same) refl
    ]

range_none : (b : Bool) (from c : ℕ) → false ≡ (b && (leb from c && ltb c (from + 0)))
range_none b from c =
    elim (cases_lt c from) [
      | inl below ↦ rw (lt-leb from c below) (sym (and_right b false refl))
      | inr above ↦ rw (le-leb from c above, le-ltb c (from + 0) (omega arith)) (sym (and_right b false refl))
    ]

with_first : (set : List ℕ) (c from n : ℕ) → has set from ≡ true → (eqb c from || (has set c && (leb (from + 1) c && ltb c (from + 1 + n)))) ≡ (has set c && (leb from c && ltb c (from + suc n)))
with_first set c from n there =
    elim (cases_eq c from) [
      | inl same ↦
          let here : has set c ≡ true = rw same there in
          rw (eq-eqb c from same, here, le-leb from c (omega arith), lt-ltb c (from + suc n) (omega arith)) refl
      | inr other ↦ rw (ne_eqb c from other, range_step c from n other) refl
    ]

without_first : (set : List ℕ) (c from n : ℕ) → has set from ≡ false → (has set c && (leb (from + 1) c && ltb c (from + 1 + n))) ≡ (has set c && (leb from c && ltb c (from + suc n)))
without_first set c from n apart =
    elim (cases_eq c from) [
      | inl same ↦ let here : has set c ≡ false = rw same apart in rw here refl
      | inr other ↦ rw (range_step c from n other) refl
    ]

-- the runs of a set's classes hold just those
pub in_runs : (set : List ℕ) (n from c : ℕ) → from + n ≤ 256 → in_ranges (runs (filter (has set) (range_with_len from n))) c ≡ (has set c && (leb from c && ltb c (from + n)))
in_runs set zero from c low = range_none (has set c) from c
in_runs set (suc n) from c low =
    let rest = runs (filter (has set) (range_with_len (from + 1) n)) in
    let more = in_runs set n (from + 1) c (omega arith) in
    elim (cases_Bool (has set from)) [
      | inl there ↦
          let joined : in_ranges (onto_run from rest) c ≡ (eqb c from || (has set c && (leb (from + 1) c && ltb c (from + 1 + n)))) = in_ranges-onto_run from rest c (runs-ranges set n (from + 1) (omega arith)) ∙ ap (λ b. eqb c from || b) more in
          rw there (joined ∙ with_first set c from n there)
      | inr apart ↦ rw apart (more ∙ without_first set c from n apart)
    ]
