-- Words that fit their places, and the first that doesn't.
use Rattle.std.proofs.Common.{◌≡◌, ℕ, zero, suc, ◌+◌, ◌<◌, Bool, true, false, cond, eqb, Some, None, List, [], ◌∷◌, length, refl, subst, arith}
use Rattle.std.proofs.lemmas.Bool.{eq-eqb, ne_eqb, eqb-true, and_parts, and_right}
use Rattle.view_base.specs.Fitting.{word_at, fitting, misfit}

-- words that fit before one that doesn't
pub fitting-at : (fits : ℕ → List ℕ → Bool) (ws : List (List ℕ)) (from k : ℕ) → k < length ws → ((j : ℕ) → j < k → fits (from + j) (word_at ws j) ≡ true) → fits (from + k) (word_at ws k) ≡ false → fitting fits from ws ≡ k
fitting-at fits [] from k inside before here = absurd (omega (arith, inside))
fitting-at fits (word ∷ others) from zero inside before here =
    let same : from + 0 ≡ from = omega arith in
    rw (rw same at here) refl
fitting-at fits (word ∷ others) from (suc k) inside before here =
    let same : from + 0 ≡ from = omega arith in
    let on : from + suc k ≡ from + 1 + k = omega arith in
    let more = fitting-at fits others (from + 1) k (omega (arith, inside)) (λ j below. subst (λ (n : ℕ). fits n (word_at others j) ≡ true) (omega arith) (before (suc j) (omega (arith, below)))) (rw on at here) in
    rw (rw same at (before 0 (omega arith))) (omega (arith, more))

-- words that all fit
pub fitting-all : (fits : ℕ → List ℕ → Bool) (ws : List (List ℕ)) (from : ℕ) → ((j : ℕ) → j < length ws → fits (from + j) (word_at ws j) ≡ true) → fitting fits from ws ≡ length ws
fitting-all fits [] from each = refl
fitting-all fits (word ∷ others) from each =
    let same : from + 0 ≡ from = omega arith in
    let more = fitting-all fits others (from + 1) (λ j below. subst (λ (n : ℕ). fits n (word_at others j) ≡ true) (omega arith) (each (suc j) (omega (arith, below)))) in
    rw (rw same at (each 0 (omega arith))) (omega (arith, more))

fitting-first : (here : Bool) (n m : ℕ) → cond here (1 + n) 0 ≡ suc m → (here ≡ true) × (n ≡ m)
fitting-first true n m is = (refl, omega (arith, is))
fitting-first false n m is = absurd (omega (arith, is))

-- of words that all fit, each fits its place
pub fitting-each : (fits : ℕ → List ℕ → Bool) (ws : List (List ℕ)) (from k : ℕ) → fitting fits from ws ≡ length ws → k < length ws → fits (from + k) (word_at ws k) ≡ true
fitting-each fits [] from k all inside = absurd (omega (arith, inside))
fitting-each fits (word ∷ others) from zero all inside =
    let same : from + 0 ≡ from = omega arith in
    rw same (fitting-first (fits from word) (fitting fits (from + 1) others) (length others) all).0
fitting-each fits (word ∷ others) from (suc k) all inside =
    let same : from + suc k ≡ from + 1 + k = omega arith in
    rw same (fitting-each fits others (from + 1) k (fitting-first (fits from word) (fitting fits (from + 1) others) (length others) all).1 (omega (arith, inside)))

-- a word that fails its place, after words that fit
pub misfit-at : (fits : ℕ → List ℕ → Bool) (whole : ℕ → Bool) (ws : List (List ℕ)) (k : ℕ) → k < length ws → ((j : ℕ) → j < k → fits j (word_at ws j) ≡ true) → fits k (word_at ws k) ≡ false → misfit fits whole ws ≡ Some k
unfolding misfit
misfit-at fits whole ws k inside before here =
    let zero_and : (n : ℕ) → 0 + n ≡ n = λ n. omega arith in
    let fit = fitting-at fits ws 0 k inside (λ j below. rw (zero_and j) (before j below)) (rw (zero_and k) here) in
    rw (fit, ne_eqb k (length ws) (λ same. omega (arith, inside))) refl

-- words that fit and aren't all that are needed
pub misfit-short : (fits : ℕ → List ℕ → Bool) (whole : ℕ → Bool) (ws : List (List ℕ)) → ((j : ℕ) → j < length ws → fits j (word_at ws j) ≡ true) → whole (length ws) ≡ false → misfit fits whole ws ≡ Some (length ws)
unfolding misfit
misfit-short fits whole ws each part =
    let zero_and : (n : ℕ) → 0 + n ≡ n = λ n. omega arith in
    let fit = fitting-all fits ws 0 (λ j below. rw (zero_and j) (each j below)) in
    rw (fit, part, and_right (eqb (length ws) (length ws)) false refl) refl

-- words that fit and are all that are needed
pub misfit-none : (fits : ℕ → List ℕ → Bool) (whole : ℕ → Bool) (ws : List (List ℕ)) → ((j : ℕ) → j < length ws → fits j (word_at ws j) ≡ true) → whole (length ws) ≡ true → misfit fits whole ws ≡ None
unfolding misfit
misfit-none fits whole ws each all =
    let zero_and : (n : ℕ) → 0 + n ≡ n = λ n. omega arith in
    let fit = fitting-all fits ws 0 (λ j below. rw (zero_and j) (each j below)) in
    rw (fit, all, eq-eqb (length ws) (length ws) refl) refl

no_misfit : (b : Bool) (k : ℕ) → cond b None (Some k) ≡ None → b ≡ true
no_misfit true k none = refl
no_misfit false k none = absurd (cc none)

-- words that fit are all that are needed, and each fits its place
pub fits-whole : (fits : ℕ → List ℕ → Bool) (whole : ℕ → Bool) (ws : List (List ℕ)) → misfit fits whole ws ≡ None → whole (length ws) ≡ true
unfolding misfit
fits-whole fits whole ws none = (and_parts (eqb (fitting fits 0 ws) (length ws)) (whole (length ws)) (no_misfit _ _ none)).1

pub fits-each : (fits : ℕ → List ℕ → Bool) (whole : ℕ → Bool) (ws : List (List ℕ)) (k : ℕ) → misfit fits whole ws ≡ None → k < length ws → fits k (word_at ws k) ≡ true
unfolding misfit
fits-each fits whole ws k none inside =
    let same : 0 + k ≡ k = omega arith in
    let all = eqb-true (fitting fits 0 ws) (length ws) (and_parts (eqb (fitting fits 0 ws) (length ws)) (whole (length ws)) (no_misfit _ _ none)).0 in
    rw same at (fitting-each fits ws 0 k all inside)
