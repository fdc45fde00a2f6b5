-- Dots of vectors that are put together, and of a point seen from the eye.
use Rattle.std.proofs.Common.{◌≡◌, ℤ, neg_ℤ, ◌+ℤ◌, ◌-ℤ◌, ◌*ℤ◌, ◌≤ℤ◌, ◌↔◌, refl, arith}
use Rattle.std.proofs.lemmas.Int.{ints}
use Rattle.view_base.specs.declared.place.Point.{Point}
use Rattle.view_meaning.specs.Camera.{dot, away}
use Rattle.int_camera.specs.HalfSpaces.{Meets, past_eye, plus, times, opposite}
use Rattle.int_camera.proofs.Multiples.{add-mul, mul-add, mul-sub, neg-mul, mul-mul}

-- a vector the other way
pub dot-opposite : (v q : Point) → dot (opposite v) q ≡ neg_ℤ (dot v q)
dot-opposite v q = omega (arith, ints, neg-mul v.x q.x, neg-mul v.y q.y, neg-mul v.z q.z)

-- a vector so many times as long
pub dot-times : (k : ℤ) (v q : Point) → dot (times k v) q ≡ k *ℤ dot v q
dot-times k v q =
    omega (arith, ints, mul-mul k v.x q.x, mul-mul k v.y q.y, mul-mul k v.z q.z, mul-add k (v.x *ℤ q.x +ℤ v.y *ℤ q.y) (v.z *ℤ q.z), mul-add k (v.x *ℤ q.x) (v.y *ℤ q.y))

-- two vectors put together
pub dot-plus : (v w q : Point) → dot (plus v w) q ≡ dot v q +ℤ dot w q
dot-plus v w q = omega (arith, ints, add-mul v.x w.x q.x, add-mul v.y w.y q.y, add-mul v.z w.z q.z)

-- a point seen from the eye
pub dot-away : (n p e : Point) → dot n (away p e) ≡ dot n p -ℤ dot n e
dot-away n p e = omega (arith, ints, mul-sub n.x p.x e.x, mul-sub n.y p.y e.y, mul-sub n.z p.z e.z)

-- a point in the half-space that begins so far past the eye
pub meets-past_eye : (eye n p : Point) (far : ℤ) → Meets (past_eye eye n far) p ↔ (far ≤ℤ dot n (away p eye))
meets-past_eye eye n p far =
    let seen = dot-away n p eye in
    ((λ (h : Meets (past_eye eye n far) p). omega (arith, ints, h, seen)), (λ (h : far ≤ℤ dot n (away p eye)). omega (arith, ints, h, seen)))

-- a half-space by the parts of its normal
pub past_eye-parts : (eye n : Point) (x y z far : ℤ) → x ≡ n.x → y ≡ n.y → z ≡ n.z → past_eye eye (record { x = x; y = y; z = z }) far ≡ past_eye eye n far
past_eye-parts eye n x y z far is_x is_y is_z = rw (is_x, is_y, is_z) refl
