-- A column or row without a division: the distance is counted from the edge first.
use Rattle.std.proofs.Common.{◌≡◌, ℕ, suc, ◌+◌, ◌-◌, ◌*◌, ◌/◌, ◌%◌, ◌^◌, ◌<◌, ◌≤◌, ◌⊎◌, inl, inr, ℤ, pos, negsuc, ◌+ℤ◌, ◌<ℤ◌, ◌≤ℤ◌, nat_abs, unsigned_abs, Some, None, nat_lt, true, false, refl, mul-le-mul, sym, ◌∙◌, ap, subst, arith, rules}
use Rattle.std.proofs.Math.Nat.{add-mul-div_right}
use Rattle.std.proofs.lemmas.Bool.{cases_lt}
use Rattle.std.proofs.lemmas.Int.{ints}
use Rattle.std.proofs.lemmas.Nat.{div_below, le-div, div-mul-add, div-add-mod', mod_below}
use Rattle.view_meaning.specs.Camera.{floor, from_edge}

-- a place left of zero that moves to zero or beyond
floor-add_past : (q r j k : ℕ) → r < k → floor (negsuc (q * k + r) +ℤ pos ((j + suc q) * k)) k ≡ negsuc q +ℤ pos (j + suc q)
floor-add_past q r j k lt =
    let moved : negsuc (q * k + r) +ℤ pos ((j + suc q) * k) ≡ pos (j * k + (k - suc r)) = omega (arith, ints) in
    let short : k - suc r < k = omega arith in
    let there : negsuc q +ℤ pos (j + suc q) ≡ pos j = omega (arith, ints) in
    ap (λ (z : ℤ). floor z k) moved ∙ ap pos (div-mul-add j k (k - suc r) short) ∙ sym there

-- a place left of zero that stays there
floor-add_short : (m r j k : ℕ) → r < k → floor (negsuc ((m + j) * k + r) +ℤ pos (m * k)) k ≡ negsuc (m + j) +ℤ pos m
floor-add_short m r j k lt =
    let moved : negsuc ((m + j) * k + r) +ℤ pos (m * k) ≡ negsuc (j * k + r) = omega (arith, ints) in
    let there : negsuc (m + j) +ℤ pos m ≡ negsuc j = omega (arith, ints) in
    ap (λ (z : ℤ). floor z k) moved ∙ ap negsuc (div-mul-add j k r lt) ∙ sym there

floor-add_left : (q r m k : ℕ) → r < k → (q < m) ⊎ (m ≤ q) → floor (negsuc (q * k + r) +ℤ pos (m * k)) k ≡ negsuc q +ℤ pos m
floor-add_left q r m k lt (inl past) =
    let e : m - suc q + suc q ≡ m = omega arith in
    subst (λ (i : ℕ). floor (negsuc (q * k + r) +ℤ pos (i * k)) k ≡ negsuc q +ℤ pos i) e (floor-add_past q r (m - suc q) k lt)
floor-add_left q r m k lt (inr short) =
    let e : m + (q - m) ≡ q = omega arith in
    subst (λ (i : ℕ). floor (negsuc (i * k + r) +ℤ pos (m * k)) k ≡ negsuc i +ℤ pos m) e (floor-add_short m r (q - m) k lt)

-- a whole number of scales more is that many more in the quotient
pub floor-add : (z : ℤ) (m k : ℕ) → 0 < k → floor (z +ℤ pos (m * k)) k ≡ floor z k +ℤ pos m
floor-add (pos n) m k h = ap pos (add-mul-div_right n m h)
floor-add (negsuc n) m k h =
    let whole : n / k * k + n % k ≡ n = div-add-mod' n k in
    let cases : (n / k < m) ⊎ (m ≤ n / k) = cases_lt (n / k) m in
    subst (λ (i : ℕ). floor (negsuc i +ℤ pos (m * k)) k ≡ negsuc (n / k) +ℤ pos m) whole (floor-add_left (n / k) (n % k) m k (mod_below n k h) cases)

-- a place that the picture has
edge_inside : (place : ℤ) (size n : ℕ) → place +ℤ pos (size / 2) ≡ pos n → n < size → from_edge place size ≡ Some n
edge_inside place size n e lt = let test : nat_lt n size ≡ true = search rules in rw (e, test)

-- a place at or past the far edge
edge_past : (place : ℤ) (size n : ℕ) → place +ℤ pos (size / 2) ≡ pos n → size ≤ n → from_edge place size ≡ None
edge_past place size n e le = let test : nat_lt n size ≡ false = search rules in rw (e, test)

-- a place before the near edge
edge_before : (place : ℤ) (size n : ℕ) → place +ℤ pos (size / 2) ≡ negsuc n → from_edge place size ≡ None
edge_before place size n e = rw e

-- no column or row of a distance that stops short of the near edge
pub from_edge-before : (a t : ℤ) (k size : ℕ) → 0 < k → t ≡ a +ℤ pos (size / 2 * k) → t <ℤ pos 0 → from_edge (floor a k) size ≡ None
from_edge-before a (pos n) k size h e lt = absurd (omega (arith, ints))
from_edge-before a (negsuc n) k size h e lt =
    edge_before (floor a k) size (n / k) (sym (floor-add a (size / 2) k h) ∙ ap (λ (z : ℤ). floor z k) (sym e))

-- none of one that reaches the far edge
pub from_edge-past : (a t : ℤ) (k size : ℕ) → 0 < k → t ≡ a +ℤ pos (size / 2 * k) → pos 0 ≤ℤ t → size * k ≤ nat_abs t → from_edge (floor a k) size ≡ None
from_edge-past a (pos n) k size h e low le =
    edge_past (floor a k) size (n / k) (sym (floor-add a (size / 2) k h) ∙ ap (λ (z : ℤ). floor z k) (sym e)) (le-div size n k h le)
from_edge-past a (negsuc n) k size h e low le = absurd (omega (arith, ints))

-- the column or row of a distance within the picture
pub from_edge-inside : (a t : ℤ) (k size : ℕ) → 0 < k → t ≡ a +ℤ pos (size / 2 * k) → pos 0 ≤ℤ t → nat_abs t < size * k → from_edge (floor a k) size ≡ Some (nat_abs t / k)
from_edge-inside a (pos n) k size h e low lt =
    edge_inside (floor a k) size (n / k) (sym (floor-add a (size / 2) k h) ∙ ap (λ (z : ℤ). floor z k) (sym e)) (div_below n k size h lt)
from_edge-inside a (negsuc n) k size h e low lt = absurd (omega (arith, ints))

-- half of a picture's size
pub half_sizes : (size k : ℕ) → size ≤ 4096 → k ≤ 2 ^ 49 → (size / 2 * k ≤ 2 ^ 60) × (size * k ≤ size / 2 * k + 2 ^ 60)
half_sizes size k small near =
    let half : size / 2 ≤ 2048 = omega arith in
    let rest : size - size / 2 ≤ 2048 = omega arith in
    let whole : size ≡ size / 2 + (size - size / 2) = omega arith in
    let first : size / 2 * k ≤ 2048 * 2 ^ 49 = mul-le-mul half near in
    let second : (size - size / 2) * k ≤ 2048 * 2 ^ 49 = mul-le-mul rest near in
    let sum : size * k ≡ size / 2 * k + (size - size / 2) * k = ap (λ (n : ℕ). n * k) whole ∙ omega arith in
    (omega (arith, first), omega (arith, sum, second))

-- none of a distance that no picture reaches
pub from_edge-beside : (a : ℤ) (k size : ℕ) → 0 < k → k ≤ 2 ^ 49 → size ≤ 4096 → 2 ^ 60 < unsigned_abs a → from_edge (floor a k) size ≡ None
from_edge-beside (pos n) k size h near small far =
    let bounds = half_sizes size k small near in
    from_edge-past (pos n) (pos (n + size / 2 * k)) k size h refl (omega (arith, ints)) (omega (arith, bounds.1, far))
from_edge-beside (negsuc n) k size h near small far =
    let bounds = half_sizes size k small near in
    from_edge-before (negsuc n) (negsuc n +ℤ pos (size / 2 * k)) k size h refl (omega (arith, ints, bounds.0, far))
