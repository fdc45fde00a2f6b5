-- Products of whole numbers: of a sum, of a difference, of a product and of a number's negative.
use Rattle.std.proofs.Common.{◌≡◌, ◌∙◌, ℕ, zero, suc, ℤ, pos, negsuc, neg_ℤ, ◌+ℤ◌, ◌-ℤ◌, ◌*ℤ◌, refl, sym, ap, arith}
use Rattle.std.proofs.Math.IntN.{suc_ℤ, pred_ℤ, suc_ℤ-*ℤ, pred_ℤ-*ℤ, *ℤ_comm, zero-*ℤ}
use Rattle.std.proofs.lemmas.Int.{ints}

suc_one : (m : ℤ) → suc_ℤ m ≡ m +ℤ pos 1
suc_one (pos n) = omega (arith, ints)
suc_one (negsuc zero) = refl
suc_one (negsuc (suc n)) = omega (arith, ints)

pred_one : (m : ℤ) → pred_ℤ m ≡ m -ℤ pos 1
pred_one (pos zero) = refl
pred_one (pos (suc n)) = omega (arith, ints)
pred_one (negsuc n) = omega (arith, ints)

-- one more
pub more-mul : (m k : ℤ) → (m +ℤ pos 1) *ℤ k ≡ m *ℤ k +ℤ k
more-mul m k = ap (λ (z : ℤ). z *ℤ k) (sym (suc_one m)) ∙ suc_ℤ-*ℤ m k

-- one less
pub less-mul : (m k : ℤ) → (m -ℤ pos 1) *ℤ k ≡ m *ℤ k -ℤ k
less-mul m k = ap (λ (z : ℤ). z *ℤ k) (sym (pred_one m)) ∙ pred_ℤ-*ℤ m k

-- a sum
pub add-mul : (m n k : ℤ) → (m +ℤ n) *ℤ k ≡ m *ℤ k +ℤ n *ℤ k
add-mul m (pos zero) k =
    let same : m +ℤ pos 0 ≡ m = omega (arith, ints) in
    let none : pos 0 *ℤ k ≡ pos 0 = zero-*ℤ k in
    ap (λ (z : ℤ). z *ℤ k) same ∙ omega (arith, ints, none)
add-mul m (pos (suc n)) k =
    let apart : m +ℤ pos (suc n) ≡ m +ℤ pos n +ℤ pos 1 = omega (arith, ints) in
    let whole : pos (suc n) ≡ pos n +ℤ pos 1 = omega (arith, ints) in
    let part : pos (suc n) *ℤ k ≡ pos n *ℤ k +ℤ k = ap (λ (z : ℤ). z *ℤ k) whole ∙ more-mul (pos n) k in
    ap (λ (z : ℤ). z *ℤ k) apart ∙ more-mul (m +ℤ pos n) k ∙ omega (arith, ints, add-mul m (pos n) k, part)
add-mul m (negsuc zero) k =
    let apart : m +ℤ negsuc 0 ≡ m -ℤ pos 1 = omega (arith, ints) in
    let whole : negsuc 0 ≡ pos 0 -ℤ pos 1 = refl in
    let none : pos 0 *ℤ k ≡ pos 0 = zero-*ℤ k in
    let part : negsuc 0 *ℤ k ≡ pos 0 *ℤ k -ℤ k = ap (λ (z : ℤ). z *ℤ k) whole ∙ less-mul (pos 0) k in
    ap (λ (z : ℤ). z *ℤ k) apart ∙ less-mul m k ∙ omega (arith, ints, part, none)
add-mul m (negsuc (suc n)) k =
    let apart : m +ℤ negsuc (suc n) ≡ m +ℤ negsuc n -ℤ pos 1 = omega (arith, ints) in
    let whole : negsuc (suc n) ≡ negsuc n -ℤ pos 1 = omega (arith, ints) in
    let part : negsuc (suc n) *ℤ k ≡ negsuc n *ℤ k -ℤ k = ap (λ (z : ℤ). z *ℤ k) whole ∙ less-mul (negsuc n) k in
    ap (λ (z : ℤ). z *ℤ k) apart ∙ less-mul (m +ℤ negsuc n) k ∙ omega (arith, ints, add-mul m (negsuc n) k, part)

-- a sum on the right
pub mul-add : (k m n : ℤ) → k *ℤ (m +ℤ n) ≡ k *ℤ m +ℤ k *ℤ n
mul-add k m n = omega (arith, ints, *ℤ_comm k (m +ℤ n), add-mul m n k, *ℤ_comm m k, *ℤ_comm n k)

-- a difference on the right
pub mul-sub : (k m n : ℤ) → k *ℤ (m -ℤ n) ≡ k *ℤ m -ℤ k *ℤ n
mul-sub k m n =
    let whole : m -ℤ n +ℤ n ≡ m = omega (arith, ints) in
    let parts : k *ℤ m ≡ k *ℤ (m -ℤ n) +ℤ k *ℤ n = ap (λ (z : ℤ). k *ℤ z) (sym whole) ∙ mul-add k (m -ℤ n) n in
    omega (arith, ints, parts)

-- a negative
pub neg-mul : (m k : ℤ) → neg_ℤ m *ℤ k ≡ neg_ℤ (m *ℤ k)
neg-mul m k =
    let none : pos 0 ≡ m +ℤ neg_ℤ m = omega (arith, ints) in
    let parts : pos 0 *ℤ k ≡ m *ℤ k +ℤ neg_ℤ m *ℤ k = ap (λ (z : ℤ). z *ℤ k) none ∙ add-mul m (neg_ℤ m) k in
    omega (arith, ints, parts, zero-*ℤ k)

-- a product whose first number is not negative
mul-mul_pos : (k : ℕ) (m n : ℤ) → pos k *ℤ m *ℤ n ≡ pos k *ℤ (m *ℤ n)
mul-mul_pos zero m n =
    let none : pos 0 *ℤ m ≡ pos 0 = zero-*ℤ m in
    ap (λ (z : ℤ). z *ℤ n) none ∙ zero-*ℤ n ∙ sym (zero-*ℤ (m *ℤ n))
mul-mul_pos (suc k) m n =
    let whole : pos (suc k) ≡ pos k +ℤ pos 1 = omega (arith, ints) in
    let left : pos (suc k) *ℤ m ≡ pos k *ℤ m +ℤ m = ap (λ (z : ℤ). z *ℤ m) whole ∙ more-mul (pos k) m in
    let right : pos (suc k) *ℤ (m *ℤ n) ≡ pos k *ℤ (m *ℤ n) +ℤ m *ℤ n = ap (λ (z : ℤ). z *ℤ (m *ℤ n)) whole ∙ more-mul (pos k) (m *ℤ n) in
    ap (λ (z : ℤ). z *ℤ n) left ∙ add-mul (pos k *ℤ m) m n ∙ ap (λ (z : ℤ). z +ℤ m *ℤ n) (mul-mul_pos k m n) ∙ sym right

-- a product
pub mul-mul : (k m n : ℤ) → k *ℤ m *ℤ n ≡ k *ℤ (m *ℤ n)
mul-mul (pos k) m n = mul-mul_pos k m n
mul-mul (negsuc k) m n =
    let left : negsuc k *ℤ m ≡ neg_ℤ (pos (suc k) *ℤ m) = neg-mul (pos (suc k)) m in
    ap (λ (z : ℤ). z *ℤ n) left ∙ neg-mul (pos (suc k) *ℤ m) n ∙ ap neg_ℤ (mul-mul_pos (suc k) m n) ∙ sym (neg-mul (pos (suc k)) (m *ℤ n))
