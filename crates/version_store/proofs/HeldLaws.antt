-- What is held where every pin was given back.
use Rattle.std.proofs.Common.{◌≡◌, ℕ, zero, suc, ◌+◌, ◌<◌, ◌≤◌, Bool, true, false, ◌||◌, cond, eqb, nat_lt, List, [], ◌∷◌, length, map, refl, ap, inl, inr, ◌∙◌, arith}
use Rattle.std.specs.List.{filter, range_with_len}
use Rattle.std.proofs.lemmas.Bool.{cases_lt, cases_eq, ne_eqb, eq-eqb, lt-ltb, le-ltb}
use Rattle.std.proofs.lemmas.List.Elements.{filter-append}
use Rattle.std.proofs.lemmas.List.Sums.{sum_by-cons}
use Rattle.view_meaning.proofs.Nearest.{range_more}
use Rattle.version_store.specs.declared.history.What.{What}
use Rattle.version_store.specs.declared.history.Entry.{Entry}
use Rattle.version_store.specs.Histories.{journal, numbered, entries_by, is_pin, is_unpin, how_many, IsGivenBack, pins_out, held}

-- the entries of the callers below a number
abbrev below : ℕ → List (Entry × ℕ) → List (Entry × ℕ)
below n entries = filter (λ (at : Entry × ℕ). nat_lt at.0.who n) entries

-- what one entry adds to a count, where it is counted
kept : (test : What → ℕ → Bool) (at : Entry × ℕ) (b : Bool) (entries : List (Entry × ℕ))
    → how_many test (cond b (at ∷ entries) entries) ≡ cond b (cond (test at.0.what at.1) 1 0) 0 + how_many test entries
kept test at true entries = sum_by-cons (λ (one : Entry × ℕ). cond (test one.0.what one.1) 1 0) at entries
kept test at false entries = omega arith

-- a caller below the next number is below this one, or has it
one_of_both : (who n one : ℕ) → cond (nat_lt who (suc n)) one 0 ≡ cond (nat_lt who n) one 0 + cond (eqb who n) one 0
one_of_both who n one = elim (cases_lt who n) as (λ _. cond (nat_lt who (suc n)) one 0 ≡ cond (nat_lt who n) one 0 + cond (eqb who n) one 0) [
  | inl less ↦
      let next : who < suc n = omega arith in
      rw (lt-ltb who (suc n) next, lt-ltb who n less, ne_eqb who n (λ same. omega arith)) (omega arith)
  | inr more ↦ elim (cases_lt n who) as (λ _. cond (nat_lt who (suc n)) one 0 ≡ cond (nat_lt who n) one 0 + cond (eqb who n) one 0) [
    | inl above ↦
        let past : suc n ≤ who = omega arith in
        let not_less : n ≤ who = omega arith in
        rw (le-ltb who (suc n) past, le-ltb who n not_less, ne_eqb who n (λ same. omega arith)) refl
    | inr under ↦
        let next : who < suc n = omega arith in
        let not_less : n ≤ who = omega arith in
        rw (lt-ltb who (suc n) next, le-ltb who n not_less, eq-eqb who n (omega arith)) (omega arith)
  ]
]

below-suc : (test : What → ℕ → Bool) (n : ℕ) (entries : List (Entry × ℕ)) → how_many test (below (suc n) entries) ≡ how_many test (below n entries) + how_many test (entries_by n entries)
below-suc test n [] = refl
below-suc test n (at ∷ entries) =
    let one = cond (test at.0.what at.1) 1 0 in
    let next = kept test at (nat_lt at.0.who (suc n)) (below (suc n) entries) in
    let these = kept test at (nat_lt at.0.who n) (below n entries) in
    let mine = kept test at (eqb at.0.who n) (entries_by n entries) in
    let others = below-suc test n entries in
    let both = one_of_both at.0.who n one in
    omega (arith, next, these, mine, others, both)

none_below : (entries : List (Entry × ℕ)) → below 0 entries ≡ []
none_below [] = refl
none_below (at ∷ entries) = rw (le-ltb at.0.who 0 (omega arith)) (none_below entries)

-- above some number all callers are below it
all_below : (entries : List (Entry × ℕ)) → (n : ℕ) × ((m : ℕ) → n ≤ m → below m entries ≡ entries)
all_below [] = (0, λ m over. refl)
all_below (at ∷ entries) =
    let others = all_below entries in (
      suc (at.0.who + others.0),
      λ m over.
          let first : at.0.who < m = omega arith in
          let rest : below m entries ≡ entries = others.1 m (omega arith) in
          rw (lt-ltb at.0.who m first) (ap (λ (l : List (Entry × ℕ)). at ∷ l) rest),
    )

le_below : (p q : What → ℕ → Bool) (entries : List (Entry × ℕ)) → ((who : ℕ) → how_many p (entries_by who entries) ≤ how_many q (entries_by who entries))
    → (n : ℕ) → how_many p (below n entries) ≤ how_many q (below n entries)
le_below p q entries less zero = rw (none_below entries) (omega arith)
le_below p q entries less (suc n) = omega (arith, below-suc p n entries, below-suc q n entries, less n, le_below p q entries less n)

lt_below : (p q : What → ℕ → Bool) (entries : List (Entry × ℕ)) → ((who : ℕ) → how_many p (entries_by who entries) ≤ how_many q (entries_by who entries))
    → (who : ℕ) → how_many p (entries_by who entries) < how_many q (entries_by who entries) → (n : ℕ) → who < n → how_many p (below n entries) < how_many q (below n entries)
lt_below p q entries less who one zero within = absurd (omega arith)
lt_below p q entries less who one (suc n) within = elim (cases_eq who n) as (λ _. how_many p (below (suc n) entries) < how_many q (below (suc n) entries)) [
  | inl here ↦
      let mine : how_many p (entries_by n entries) < how_many q (entries_by n entries) = rw here at one in
      omega (arith, below-suc p n entries, below-suc q n entries, mine, le_below p q entries less n)
  | inr other ↦
      let earlier : who < n = omega arith in
      omega (arith, below-suc p n entries, below-suc q n entries, less n, lt_below p q entries less who one n earlier)
]

-- what is no more for each caller is no more for all
pub how_many-le : (p q : What → ℕ → Bool) (entries : List (Entry × ℕ)) → ((who : ℕ) → how_many p (entries_by who entries) ≤ how_many q (entries_by who entries))
    → how_many p entries ≤ how_many q entries
how_many-le p q entries less =
    let all = all_below entries in
    let whole : below all.0 entries ≡ entries = all.1 all.0 (omega arith) in
    rw whole at (le_below p q entries less all.0)

-- and less for one of them is less for all
pub how_many-lt : (p q : What → ℕ → Bool) (entries : List (Entry × ℕ)) → ((who : ℕ) → how_many p (entries_by who entries) ≤ how_many q (entries_by who entries))
    → (who : ℕ) → how_many p (entries_by who entries) < how_many q (entries_by who entries) → how_many p entries < how_many q entries
how_many-lt p q entries less who one =
    let all = all_below entries in
    let n = all.0 + suc who in
    let whole : below n entries ≡ entries = all.1 n (omega arith) in
    rw whole at (lt_below p q entries less who one n (omega arith))

none_pass : (p : ℕ → Bool) (n : ℕ) → ((v : ℕ) → v < n → p v ≡ false) → filter p (range_with_len 0 n) ≡ []
none_pass p zero fails = refl
none_pass p (suc n) fails =
    let last : p n ≡ false = fails n (omega arith) in
    ap (λ (l : List ℕ). filter p l) (range_more 0 n n (omega arith))
    ∙ filter-append p (range_with_len 0 n) (n ∷ [])
    ∙ rw (none_pass p n (λ v below. fails v (omega arith)), last) refl

one_passes : (p : ℕ → Bool) (n : ℕ) → ((v : ℕ) → v < n → p v ≡ false) → p n ≡ true → filter p (range_with_len 0 (n + 1)) ≡ n ∷ []
one_passes p n fails passes =
    let next : n + 1 ≡ suc n = omega arith in
    ap (λ (m : ℕ). filter p (range_with_len 0 m)) next
    ∙ ap (λ (l : List ℕ). filter p l) (range_more 0 n n (omega arith))
    ∙ filter-append p (range_with_len 0 n) (n ∷ [])
    ∙ rw (none_pass p n fails, passes) refl

pub pins_out-none : (h : List Entry) (v : ℕ) → IsGivenBack h → pins_out h v ≡ 0
unfolding IsGivenBack
pins_out-none h v back =
    let few : how_many (is_pin v) (numbered 0 h) ≤ how_many (is_unpin v) (numbered 0 h) = how_many-le (is_pin v) (is_unpin v) (numbered 0 h) (λ who. let same = back who v in omega arith) in
    omega arith

-- where every pin was given back, the newest version alone is held
pub held_current : (h : List Entry) → IsGivenBack h → held h ≡ (length (journal h), 0) ∷ []
unfolding held
held_current h back =
    let n = length (journal h) in
    let none = λ (v : ℕ). pins_out-none h v back in
    let test = λ (v : ℕ). eqb v n || nat_lt 0 (pins_out h v) in
    let one : filter test (range_with_len 0 (n + 1)) ≡ n ∷ [] = one_passes test n
    (λ v under. rw (ne_eqb v n (λ same. omega arith), none v) refl)
    (rw (eq-eqb n n refl) refl) in
    ap (λ (l : List ℕ). map (λ (v : ℕ). (v, pins_out h v)) l) one
    ∙ ap (λ (m : ℕ). (n, m) ∷ []) (none n)
