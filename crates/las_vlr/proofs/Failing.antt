-- The first fault of a test that each number of a range is put to.
use Rattle.std.proofs.Common.{◌≡◌, ℕ, zero, suc, ◌+◌, ◌≤◌, ◌<◌, Bool, true, false, refl, ap, ◌∙◌, arith, Some, None}
use Rattle.std.specs.Prelude.{map}
use Rattle.std.specs.List.{range_with_len}
use Rattle.view_base.specs.declared.fault.SurveyFault.{SurveyFault}
use Rattle.view_meaning.specs.Layout.{first_fault, unless}

none_from : (p : ℕ → Bool) (f : ℕ → SurveyFault) (a n : ℕ) → ((k : ℕ) → a ≤ k → k < a + n → p k ≡ true) → first_fault (map (λ k. unless (p k) (f k)) (range_with_len a n)) ≡ None
none_from p f a zero passes = refl
none_from p f a (suc n) passes =
    let here : p a ≡ true = passes a (omega arith) (omega arith) in
    rw here (none_from p f (a + 1) n (λ k from below. passes k (omega arith) (omega arith)))

one_from : (p : ℕ → Bool) (f : ℕ → SurveyFault) (a n j : ℕ) → ((k : ℕ) → a ≤ k → k < a + j → p k ≡ true) → j < n → p (a + j) ≡ false
    → first_fault (map (λ k. unless (p k) (f k)) (range_with_len a n)) ≡ Some (f (a + j))
one_from p f a zero j passes below fails = absurd (omega arith)
one_from p f a (suc n) zero passes below fails =
    let here : p a ≡ false = ap p (omega arith) ∙ fails in
    rw here (ap (λ (k : ℕ). Some (f k)) (omega arith))
one_from p f a (suc n) (suc j) passes below fails =
    let here : p a ≡ true = passes a (omega arith) (omega arith) in
    let there : p (a + 1 + j) ≡ false = ap p (omega arith) ∙ fails in
    rw here (one_from p f (a + 1) n j (λ k from under. passes k (omega arith) (omega arith)) (omega arith) there ∙ ap (λ (k : ℕ). Some (f k)) (omega arith))

-- no fault where each below the count passes
pub first_fault-none : (p : ℕ → Bool) (f : ℕ → SurveyFault) (count : ℕ) → ((k : ℕ) → k < count → p k ≡ true) → first_fault (map (λ k. unless (p k) (f k)) (range_with_len 0 count)) ≡ None
first_fault-none p f count passes = none_from p f 0 count (λ k _ below. passes k (omega arith))

-- the fault of the one that fails, where each below it passes
pub first_fault-some : (p : ℕ → Bool) (f : ℕ → SurveyFault) (count j : ℕ) → ((k : ℕ) → k < j → p k ≡ true) → j < count → p j ≡ false
    → first_fault (map (λ k. unless (p k) (f k)) (range_with_len 0 count)) ≡ Some (f j)
first_fault-some p f count j passes below fails =
    one_from p f 0 count j (λ k _ under. passes k (omega arith)) below (ap p (omega arith) ∙ fails) ∙ ap (λ (k : ℕ). Some (f k)) (omega arith)

-- each number below the next passes where this one does too
pub passes_more : (p : ℕ → Bool) (k : ℕ) → ((i : ℕ) → i < k → p i ≡ true) → p k ≡ true → (i : ℕ) → i < k + 1 → p i ≡ true
passes_more p k passes last i below = grind arith
