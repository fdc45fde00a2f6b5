-- The first number out of its range: where it is, and what is known where there is none.
use Rattle.std.proofs.Common.{◌≡◌, ℕ, zero, suc, ◌+◌, ◌-◌, ◌<◌, ◌≤◌, Bool, true, false, cond, ℤ, pos, ◌*ℤ◌, ◌≤ℤ◌, List, [], ◌∷◌, ◌++◌, length, get_or, Some, None, refl, sym, ◌∙◌, ap, subst, arith, unsigned_abs, FitsSigned, below_more}
use Rattle.std.specs.List.{find, range_with_len}
use mir.Syntax.{w128}
use Rattle.std.proofs.Math.ListN.{get_or-append}
use Rattle.std.proofs.Math.Seq.{get_or-append_seam}
use Rattle.std.proofs.lemmas.Int.{ints, fits_signed_mul}
use Rattle.view_meaning.specs.Camera.{Projection}
use Rattle.int_camera.specs.Limits.{first_outside, is_outside, looked_at, number, ranges, is_out}

-- the first place of a range that passes
pub find_first : (p : ℕ → Bool) (from count k : ℕ) → k < count → ((j : ℕ) → j < k → p (from + j) ≡ false) → p (from + k) ≡ true → find p (range_with_len from count) ≡ Some (from + k)
find_first p from zero k lt below here = absurd (omega arith)
find_first p from (suc count) zero lt below here =
    let e : p from ≡ true = subst (λ (i : ℕ). p i ≡ true) (omega arith) here in
    let s : from ≡ from + 0 = omega arith in
    rw e (ap Some s)
find_first p from (suc count) (suc k) lt below here =
    let e : p from ≡ false = subst (λ (i : ℕ). p i ≡ false) (omega arith) (below 0 (omega arith)) in
    let s : from + 1 + k ≡ from + suc k = omega arith in
    rw e (subst (λ (i : ℕ). find p (range_with_len (from + 1) count) ≡ Some i) s (find_first p (from + 1) count k (omega arith) (λ (j : ℕ) (h : j < k). subst (λ (i : ℕ). p i ≡ false) (omega arith) (below (suc j) (omega arith))) (subst (λ (i : ℕ). p i ≡ true) (sym s) here)))

-- none of a range passes
pub find_none : (p : ℕ → Bool) (from count : ℕ) → ((j : ℕ) → j < count → p (from + j) ≡ false) → find p (range_with_len from count) ≡ None
find_none p from zero all = refl
find_none p from (suc count) all =
    let e : p from ≡ false = subst (λ (i : ℕ). p i ≡ false) (omega arith) (all 0 (omega arith)) in
    rw e (find_none p (from + 1) count (λ (j : ℕ) (h : j < count). subst (λ (i : ℕ). p i ≡ false) (omega arith) (all (suc j) (omega arith))))

-- the same of a range by its first place
none_passes_after : (p : ℕ → Bool) (from count : ℕ) (first : Bool) → p from ≡ first → cond first (Some from) (find p (range_with_len (from + 1) count)) ≡ None → (find p (range_with_len (from + 1) count) ≡ None → (j : ℕ) → j < count → p (from + 1 + j) ≡ false) → (j : ℕ) → j < suc count → p (from + j) ≡ false
none_passes_after p from count true e none rest j lt = absurd (let h : Some from ≡ None = none in cc)
none_passes_after p from count false e none rest zero lt = subst (λ (i : ℕ). p i ≡ false) (omega arith) e
none_passes_after p from count false e none rest (suc j) lt =
    subst (λ (i : ℕ). p i ≡ false) (omega arith) (rest none j (omega arith))

-- where none of a range passes, each fails
pub none_passes : (p : ℕ → Bool) (from count : ℕ) → find p (range_with_len from count) ≡ None → (j : ℕ) → j < count → p (from + j) ≡ false
none_passes p from zero none j lt = absurd (omega arith)
none_passes p from (suc count) none j lt =
    none_passes_after p from count (p from) refl none (none_passes p (from + 1) count) j lt

-- a number in a range
pub within : (range : ℤ × ℤ) (value : ℤ) → is_out range value ≡ false → (range.0 ≤ℤ value) × (value ≤ℤ range.1)
within range value e = grind (arith, ints)

-- whether one of the eighteen numbers is out of its range
pub is_outside-at : (kind : Projection) (n : List ℤ) (i : ℕ) → length n ≡ 18 → i < 18 → is_outside kind n (1 + i) ≡ is_out (get_or (ranges kind (number n 17)) i (pos 0, pos 0)) (get_or n i (pos 0))
unfolding is_outside
is_outside-at kind n i len lt =
    let place : 1 + i - 1 ≡ i = omega arith in
    let short : i < length n = omega arith in
    rw place (rw (get_or-append n _ (pos 0) i short) refl)

-- the last number that is looked at
last_looked_at : (n : List ℤ) → length n ≡ 18 → number (looked_at n) 19 ≡ number n 1 *ℤ number n 2
last_looked_at n len =
    let p : ℤ = number n 1 *ℤ number n 2 in
    subst (λ (i : ℕ). get_or (n ++ p ∷ []) i (pos 0) ≡ p) len (get_or-append_seam n p [] (pos 0))

-- whether the product is out of its range
pub is_outside-pixels : (kind : Projection) (n : List ℤ) → length n ≡ 18 → is_outside kind n 19 ≡ is_out (pos 1, pos 9437184) (number n 1 *ℤ number n 2)
unfolding is_outside
is_outside-pixels kind n len = ap (is_out (pos 1, pos 9437184)) (last_looked_at n len)

-- a search that finds a place
first_outside-at : (kind : Projection) (n : List ℤ) (place : ℕ) → find (is_outside kind n) (range_with_len 1 19) ≡ Some place → first_outside kind n ≡ Some record { place = place; value = number (looked_at n) place }
unfolding first_outside
first_outside-at kind n place e = rw e

-- one of the eighteen numbers is the first that is out of its range
pub first_outside-found : (kind : Projection) (n : List ℤ) (i : ℕ) → length n ≡ 18 → i < 18 → ((k : ℕ) → k < i → is_outside kind n (1 + k) ≡ false) → is_outside kind n (1 + i) ≡ true → first_outside kind n ≡ Some record { place = i + 1; value = get_or n i (pos 0) }
first_outside-found kind n i len lt below here =
    let found : find (is_outside kind n) (range_with_len 1 19) ≡ Some (1 + i) = find_first (is_outside kind n) 1 19 i (omega arith) below here in
    let short : i < length n = omega arith in
    let place : 1 + i ≡ i + 1 = omega arith in
    let back : i + 1 - 1 ≡ i = omega arith in
    let value : number (looked_at n) (i + 1) ≡ get_or n i (pos 0) = rw back (get_or-append n _ (pos 0) i short) in
    rw (first_outside-at kind n (1 + i) found, place, value) refl

-- the product is
pub first_outside-last : (kind : Projection) (n : List ℤ) → length n ≡ 18 → ((k : ℕ) → k < 18 → is_outside kind n (1 + k) ≡ false) → is_outside kind n 19 ≡ true → first_outside kind n ≡ Some record { place = 19; value = number n 1 *ℤ number n 2 }
first_outside-last kind n len below here =
    let found : find (is_outside kind n) (range_with_len 1 19) ≡ Some 19 = find_first (is_outside kind n) 1 19 18 (omega arith) below here in
    rw (first_outside-at kind n 19 found, last_looked_at n len) refl

-- no number is
pub first_outside-none : (kind : Projection) (n : List ℤ) → ((k : ℕ) → k < 18 → is_outside kind n (1 + k) ≡ false) → is_outside kind n 19 ≡ false → first_outside kind n ≡ None
unfolding first_outside
first_outside-none kind n below last =
    let none : find (is_outside kind n) (range_with_len 1 19) ≡ None = find_none (is_outside kind n) 1 19 (below_more _ 18 below last) in
    rw none

-- width times height does not overflow
pub pixels_fit : (kind : Projection) (n : List ℤ) → length n ≡ 18 → ((k : ℕ) → k < 18 → is_outside kind n (1 + k) ≡ false) → FitsSigned w128 (get_or n 0 (pos 0) *ℤ get_or n 1 (pos 0))
pixels_fit kind n len below =
    let w : (pos 1 ≤ℤ get_or n 0 (pos 0)) × (get_or n 0 (pos 0) ≤ℤ pos 4096) = within (pos 1, pos 4096) (get_or n 0 (pos 0)) (sym (is_outside-at kind n 0 len (omega arith)) ∙ below 0 (omega arith)) in
    let h : (pos 1 ≤ℤ get_or n 1 (pos 0)) × (get_or n 1 (pos 0) ≤ℤ pos 4096) = within (pos 1, pos 4096) (get_or n 1 (pos 0)) (sym (is_outside-at kind n 1 len (omega arith)) ∙ below 1 (omega arith)) in
    let w_abs : unsigned_abs (get_or n 0 (pos 0)) ≤ 4096 = omega (arith, ints) in
    let h_abs : unsigned_abs (get_or n 1 (pos 0)) ≤ 4096 = omega (arith, ints) in
    fits_signed_mul w128 (get_or n 0 (pos 0)) (get_or n 1 (pos 0)) 4096 4096 w_abs h_abs (omega arith)
