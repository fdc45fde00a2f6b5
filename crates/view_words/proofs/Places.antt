-- Tests of the places of a range: the first that passes, and whether one does.
use Rattle.std.proofs.Common.{◌≡◌, ℕ, zero, suc, ◌+◌, ◌<◌, ◌≤◌, List, [], ◌∷◌, Option, Some, Bool, true, false, cond, inl, inr, refl, sym, ◌∙◌, ap, arith}
use Rattle.std.proofs.lemmas.Bool.{cases_eq}
use Rattle.std.proofs.Math.Bool.{or-true}
use Rattle.std.specs.List.{find, list_any, range_with_len}
use Rattle.std.specs.Prelude.{◌||◌}

found_first : {X : Type 0} (test : X → Bool) (y x : X) (o : Option X) (b : Bool) → test y ≡ b → cond b (Some y) o ≡ Some x → (o ≡ Some x → test x ≡ true) → test x ≡ true
found_first test y x o true is found later = let e : y ≡ x = cc found in ap test (sym e) ∙ is
found_first test y x o false is found later = later found

-- what is found of a list passes
pub find_passes : {X : Type 0} (test : X → Bool) (xs : List X) (x : X) → find test xs ≡ Some x → test x ≡ true
find_passes test [] x found = absurd (cc found)
find_passes test (y ∷ ys) x found = found_first test y x (find test ys) (test y) refl found (λ later. find_passes test ys x later)

-- where no place passes
pub any-range_none : (test : ℕ → Bool) (a n : ℕ) → ((k : ℕ) → a ≤ k → k < a + n → test k ≡ false) → list_any test (range_with_len a n) ≡ false
any-range_none test a zero none = refl
any-range_none test a (suc n) none =
    rw (none a (omega arith) (omega arith)) (any-range_none test (a + 1) n (λ k from below. none k (omega arith) (omega arith)))

-- a place that passes
pub any-range_some : (test : ℕ → Bool) (a n at : ℕ) → a ≤ at → at < a + n → test at ≡ true → list_any test (range_with_len a n) ≡ true
any-range_some test a zero at from below here = absurd (omega arith)
any-range_some test a (suc n) at from below here =
    elim (cases_eq a at) [
      | inl same ↦ let passes : test a ≡ true = ap test same ∙ here in rw passes refl
      | inr other ↦ rw (any-range_some test (a + 1) n at (omega arith) (omega arith) here) (or-true (test a))
    ]

-- of two tests of which none passes each fails
pub neither : (a b : Bool) → (a || b) ≡ false → (a ≡ false) × (b ≡ false)
neither true b is = absurd (cc is)
neither false b is = (refl, is)

-- where none passes, each fails
pub none_passes : (test : ℕ → Bool) (n k : ℕ) → list_any test (range_with_len 0 n) ≡ false → k < n → test k ≡ false
none_passes test n k none below = either (test k) refl
  where
    either : (b : Bool) → test k ≡ b → b ≡ false
    either true is = absurd (cc (none, any-range_some test 0 n k (omega arith) (omega arith) is))
    either false is = refl
