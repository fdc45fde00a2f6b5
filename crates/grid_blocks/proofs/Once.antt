-- Lists that have each number below a bound once.
use Rattle.std.proofs.Common.{◌≡◌, ◌≢◌, ℕ, zero, suc, ◌+◌, ◌-◌, ◌<◌, ◌≤◌, ◌==◌, cond, List, [], ◌∷◌, length, get_or, take, drop, inl, inr, refl, sym, ◌∙◌, arith}
use Rattle.std.specs.List.{range_with_len, sum_by, Contains}
use Rattle.std.specs.List.Sorted.{IsPermutation}
use Rattle.std.proofs.lemmas.Bool.{cases_lt}
use Rattle.std.proofs.lemmas.Bool.Decides.{nat_tests}
use Rattle.std.proofs.lemmas.List.{same_lists, get_or_default, get_or-take, get_or-drop, length-take, length-drop}
use Rattle.std.proofs.lemmas.List.FromFn.{length-range_with_len, get_or-range_with_len}
use Rattle.std.proofs.lemmas.List.Sums.{sum_by-cons}
use Rattle.std.proofs.lemmas.List.Elements.{Contains-get_or}
use Rattle.std.proofs.lemmas.List.Sorted.{sum_by-IsPermutation, Contains-permutation, length_permutation}

-- 1 for a number that is this one, and 0 for each other
abbrev counted : ℕ → ℕ → ℕ
counted v x = cond (x == v) 1 0

-- how often a number stands in a list
abbrev times : ℕ → List ℕ → ℕ
times v items = sum_by (counted v) items

one_time : (x v : ℕ) → x ≡ v → counted v x ≡ 1
one_time x v same = grind (arith, nat_tests)

no_time : (x v : ℕ) → x ≢ v → counted v x ≡ 0
no_time x v other = grind (arith, nat_tests)

times-cons : (v x : ℕ) (items : List ℕ) → times v (x ∷ items) ≡ counted v x + times v items
times-cons v x items = sum_by-cons (counted v) x items

times-range_below : (v a n : ℕ) → v < a → times v (range_with_len a n) ≡ 0
times-range_below v a zero lt = refl
times-range_below v a (suc n) lt =
    let here : counted v a ≡ 0 = no_time a v (omega arith) in
    let rest : times v (range_with_len (a + 1) n) ≡ 0 = times-range_below v (a + 1) n (omega arith) in
    times-cons v a (range_with_len (a + 1) n) ∙ omega (arith, here, rest)

times-range : (v a n : ℕ) → times v (range_with_len a n) ≤ 1
times-range v a zero = omega arith
times-range v a (suc n) = elim (cases_lt v a) [
  | inl below ↦ let none : times v (range_with_len a (suc n)) ≡ 0 = times-range_below v a (suc n) below in omega (arith, none)
  | inr least ↦ elim (cases_lt a v) [
    | inl above ↦
        let here : counted v a ≡ 0 = no_time a v (omega arith) in
        let rest : times v (range_with_len (a + 1) n) ≤ 1 = times-range v (a + 1) n in
        omega (arith, here, rest, times-cons v a (range_with_len (a + 1) n))
    | inr most ↦
        let here : counted v a ≡ 1 = one_time a v (omega arith) in
        let rest : times v (range_with_len (a + 1) n) ≡ 0 = times-range_below v (a + 1) n (omega arith) in
        omega (arith, here, rest, times-cons v a (range_with_len (a + 1) n))
  ]
]

times_some : (v : ℕ) (items : List ℕ) (p : ℕ) → p < length items → get_or items p 0 ≡ v → 1 ≤ times v items
times_some v [] p lt is = absurd (omega (arith, lt))
times_some v (x ∷ items) zero lt is = let here : counted v x ≡ 1 = one_time x v is in omega (arith, here, times-cons v x items)
times_some v (x ∷ items) (suc p) lt is = let rest : 1 ≤ times v items = times_some v items p (omega (arith, lt)) is in omega (arith, rest, times-cons v x items)

times_two : (v : ℕ) (items : List ℕ) (p q : ℕ) → p < q → q < length items → get_or items p 0 ≡ v → get_or items q 0 ≡ v → 2 ≤ times v items
times_two v [] p q below lt at_p at_q = absurd (omega (arith, lt))
times_two v (x ∷ items) p zero below lt at_p at_q = absurd (omega (arith, below))
times_two v (x ∷ items) zero (suc q) below lt at_p at_q =
    let here : counted v x ≡ 1 = one_time x v at_p in
    let rest : 1 ≤ times v items = times_some v items q (omega (arith, lt)) at_q in
    omega (arith, here, rest, times-cons v x items)
times_two v (x ∷ items) (suc p) (suc q) below lt at_p at_q =
    let rest : 2 ≤ times v items = times_two v items p q (omega (arith, below)) (omega (arith, lt)) at_p at_q in
    omega (arith, rest, times-cons v x items)

-- two places have different numbers
pub once-apart : (n : ℕ) (items : List ℕ) (p q : ℕ) → IsPermutation (range_with_len 0 n) items → p < q → q < length items → get_or items p 0 ≢ get_or items q 0
once-apart n items p q all below lt = λ same.
    let two : 2 ≤ times (get_or items q 0) items = times_two (get_or items q 0) items p q below lt same refl in
    let as_many : times (get_or items q 0) items ≡ times (get_or items q 0) (range_with_len 0 n) = sum_by-IsPermutation (counted (get_or items q 0)) (range_with_len 0 n) items all in
    let one : times (get_or items q 0) (range_with_len 0 n) ≤ 1 = times-range (get_or items q 0) 0 n in
    omega (arith, two, as_many, one)

-- as many places as numbers
pub length-once : (n : ℕ) (items : List ℕ) → IsPermutation (range_with_len 0 n) items → length items ≡ n
length-once n items all = length_permutation (range_with_len 0 n) items all ∙ length-range_with_len 0 n

-- some place has a number
pub once-found : (n : ℕ) (items : List ℕ) (i : ℕ) → IsPermutation (range_with_len 0 n) items → i < n → (place : ℕ) × (place < length items) × (get_or items place 0 ≡ i)
once-found n items i all lt =
    let size : length (range_with_len 0 n) ≡ n = length-range_with_len 0 n in
    let here : Contains (range_with_len 0 n) (get_or (range_with_len 0 n) i 0) = Contains-get_or (range_with_len 0 n) i 0 (omega (arith, lt, size)) in
    let is : get_or (range_with_len 0 n) i 0 ≡ i = get_or-range_with_len 0 n i 0 lt ∙ omega arith in
    let found = Contains-permutation (range_with_len 0 n) items (get_or (range_with_len 0 n) i 0) all here in
    (found.0, found.1, get_or_default items found.0 0 (get_or (range_with_len 0 n) i 0) found.1 ∙ found.2 ∙ is)

-- a part of the numbers from 0 on
pub part-range : (n first count : ℕ) → first + count ≤ n → take count (drop first (range_with_len 0 n)) ≡ range_with_len first count
part-range n first count within =
    let size : length (range_with_len 0 n) ≡ n = length-range_with_len 0 n in
    let dropped : length (drop first (range_with_len 0 n)) ≡ length (range_with_len 0 n) - first = length-drop first (range_with_len 0 n) in
    same_lists _ _ (length-take count (drop first (range_with_len 0 n)) ∙ omega (arith, size, dropped) ∙ sym (length-range_with_len first count))
    (λ k d lt. let here : k < count = let taken = length-take count (drop first (range_with_len 0 n)) in omega (arith, lt, taken) in
    get_or-take count (drop first (range_with_len 0 n)) k d here ∙ get_or-drop first (range_with_len 0 n) k d
    ∙ get_or-range_with_len 0 n (first + k) d (omega arith) ∙ omega arith ∙ sym (get_or-range_with_len first count k d here))
