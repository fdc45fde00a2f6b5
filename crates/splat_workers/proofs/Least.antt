-- The least value that is paired with a pixel, by what stands in the list.
use Rattle.std.proofs.Common.{◌≡◌, ℕ, zero, suc, ◌-◌, ◌^◌, ◌≤◌, ◌⊎◌, inl, inr, List, [], ◌∷◌, refl, sym, subst, ap, arith}
use Rattle.std.proofs.lemmas.Bool.Decides.{nat_tests}
use Rattle.std.proofs.lemmas.List.Elements.{Contains-append_left, Contains-append_right, Contains-append_cases}
use Rattle.std.specs.List.{Contains, flat_map}
use Rattle.min_frame.specs.Least.{least}

contains-cases : {A : Type 0} (y x : A) (xs : List A) → Contains (y ∷ xs) x → (y ≡ x) ⊎ Contains xs x
contains-cases y x xs (zero, lt, is) = inl is
contains-cases y x xs (suc k, lt, is) = inr (k, omega (arith, lt), is)

contains-later : {A : Type 0} (y x : A) (xs : List A) → Contains xs x → Contains (y ∷ xs) x
contains-later y x xs (k, lt, is) = (suc k, omega (arith, lt), is)

-- the least value is at most each one that is paired with the pixel
pub least-at_most : (ps : List (ℕ × ℕ)) (x v : ℕ) → Contains ps (x, v) → least ps x ≤ v
least-at_most [] x v (k, lt, is) = absurd (omega (arith, lt))
least-at_most (p ∷ ps) x v has = elim (contains-cases p (x, v) ps has) [
  | inl here ↦ let pixel : p.0 ≡ x = ap (λ (q : ℕ × ℕ). q.0) here in let value : p.1 ≡ v = ap (λ (q : ℕ × ℕ). q.1) here in grind (arith, nat_tests)
  | inr later ↦ let rest : least ps x ≤ v = least-at_most ps x v later in grind (arith, nat_tests)
]

-- it is at least what each value that is paired with the pixel is at least
pub least-at_least : (ps : List (ℕ × ℕ)) (x w : ℕ) → w ≤ 2 ^ 64 - 1 → ((v : ℕ) → Contains ps (x, v) → w ≤ v) → w ≤ least ps x
least-at_least [] x w low each = low
least-at_least (p ∷ ps) x w low each =
    let rest : w ≤ least ps x = least-at_least ps x w low (λ v has. each v (contains-later p (x, v) ps has)) in
    let here : p.0 ≡ x → w ≤ p.1 = λ same. each p.1 (0, omega arith, ap (λ (k : ℕ). (k, p.1)) same) in
    grind (arith, nat_tests)

-- what stands in one of the lists stands in all of them together
pub contains-flat_map : {X A : Type 0} (f : X → List A) (xs : List X) (x : X) (y : A) → Contains xs x → Contains (f x) y → Contains (flat_map f xs) y
contains-flat_map f [] x y (k, lt, is) has = absurd (omega (arith, lt))
contains-flat_map {X} {A} f (z ∷ xs) x y at has = elim (contains-cases z x xs at) [
  | inl here ↦ Contains-append_left (f z) (flat_map f xs) y (subst (λ (u : X). Contains (f u) y) (sym here) has)
  | inr later ↦ Contains-append_right (f z) (flat_map f xs) y (contains-flat_map f xs x y later has)
]

-- and the other way round
pub flat_map-contains : {X A : Type 0} (f : X → List A) (xs : List X) (y : A) → Contains (flat_map f xs) y → (x : X) × Contains xs x × Contains (f x) y
flat_map-contains f [] y (k, lt, is) = absurd (omega (arith, lt))
flat_map-contains {X} {A} f (z ∷ xs) y has = elim (Contains-append_cases (f z) (flat_map f xs) y has) [
  | inl here ↦ (z, (0, omega arith, refl), here)
  | inr later ↦ let rest = flat_map-contains f xs y later in (rest.0, contains-later z rest.0 xs rest.1, rest.2)
]
