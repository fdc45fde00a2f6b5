-- The normals of a camera's half-spaces: their parts are in range.
use Rattle.std.proofs.Common.{ℕ, ◌-◌, ◌/◌, ◌^◌, ◌≤◌, ℤ, pos, neg_ℤ, ◌+ℤ◌, ◌*ℤ◌, ◌≤ℤ◌, All, unsigned_abs, arith}
use Rattle.std.proofs.lemmas.Int.{ints}
use Rattle.view_base.specs.declared.place.Point.{Point}
use Rattle.view_meaning.specs.Camera.{Projection, orthographic, perspective, Lens}
use Rattle.int_camera.specs.Limits.{scale_range}
use Rattle.int_camera.specs.Kept.{IsCamera, IsNormal, IsPart, IsVector}
use Rattle.int_camera.specs.HalfSpaces.{HasNormal, past_eye, plus, times, opposite, from_first, to_last, from_near, to_far, half_spaces}
use Rattle.int_camera.proofs.InView.{all_six}
use Rattle.int_camera.proofs.Products.{abs_within, product_small}

-- two parts of vectors, each so many times
mixed : (k m v w : ℤ) → unsigned_abs k ≤ 2 ^ 20 → unsigned_abs m ≤ 2 ^ 20 → IsPart v → IsPart w → IsNormal (k *ℤ v +ℤ m *ℤ w)
mixed k m v w k_small m_small v_in w_in =
    let first = product_small k v (2 ^ 20) 32768 k_small (abs_within v 32768 v_in.0 (omega (arith, ints, v_in))) in
    let second = product_small m w (2 ^ 20) 32768 m_small (abs_within w 32768 w_in.0 (omega (arith, ints, w_in))) in
    omega (arith, ints, first, second)

-- along a vector
along : (eye v : Point) (far : ℤ) → IsVector v → HasNormal (past_eye eye v far)
along eye v far is = record { nx = omega (arith, ints, is.x); ny = omega (arith, ints, is.y); nz = omega (arith, ints, is.z) }

-- against one
against : (eye v : Point) (far : ℤ) → IsVector v → HasNormal (past_eye eye (opposite v) far)
against eye v far is = record { nx = omega (arith, ints, is.x); ny = omega (arith, ints, is.y); nz = omega (arith, ints, is.z) }

-- along two, each so many times
along_two : (eye v w : Point) (k m far : ℤ) → unsigned_abs k ≤ 2 ^ 20 → unsigned_abs m ≤ 2 ^ 20 → IsVector v → IsVector w → HasNormal (past_eye eye (plus (times k v) (times m w)) far)
along_two eye v w k m far k_small m_small of_v of_w = record {
  nx = mixed k m v.x w.x k_small m_small of_v.x of_w.x;
  ny = mixed k m v.y w.y k_small m_small of_v.y of_w.y;
  nz = mixed k m v.z w.z k_small m_small of_v.z of_w.z;
}

-- the first column or row
has-from_first : (kind : Projection) (lens : Lens) (v : Point) (size : ℕ) → size ≤ 4096 → pos lens.scale ≤ℤ (scale_range kind).1 → IsVector v → IsVector lens.forward → HasNormal (from_first kind lens v size)
has-from_first orthographic lens v size small scale is ahead = along lens.eye v _ is
has-from_first perspective lens v size small scale is ahead =
    along_two lens.eye v lens.forward (pos lens.scale) (pos (size / 2)) (pos 0) (omega (arith, ints, scale)) (omega (arith, ints, small)) is ahead

-- the last one
has-to_last : (kind : Projection) (lens : Lens) (v : Point) (size : ℕ) → size ≤ 4096 → pos lens.scale ≤ℤ (scale_range kind).1 → IsVector v → IsVector lens.forward → HasNormal (to_last kind lens v size)
has-to_last orthographic lens v size small scale is ahead = against lens.eye v _ is
has-to_last perspective lens v size small scale is ahead =
    along_two lens.eye lens.forward v (pos (size - size / 2)) (neg_ℤ (pos lens.scale)) (pos 1) (omega (arith, ints, small)) (omega (arith, ints, scale)) ahead is

-- each of the six
pub normals-half_spaces : (lens : Lens) → IsCamera lens → All HasNormal (half_spaces lens)
normals-half_spaces lens kept =
    (all_six HasNormal (from_first lens.kind lens lens.right lens.width) (to_last lens.kind lens lens.right lens.width) (from_first lens.kind lens lens.down lens.height) (to_last lens.kind lens lens.down lens.height) (from_near lens) (to_far lens)).1 (
      (has-from_first lens.kind lens lens.right lens.width kept.width.1 kept.scale.1 kept.right kept.forward, has-to_last lens.kind lens lens.right lens.width kept.width.1 kept.scale.1 kept.right kept.forward),
      (
        (has-from_first lens.kind lens lens.down lens.height kept.height.1 kept.scale.1 kept.down kept.forward, has-to_last lens.kind lens lens.down lens.height kept.height.1 kept.scale.1 kept.down kept.forward),
        (along lens.eye lens.forward _ kept.forward, against lens.eye lens.forward _ kept.forward),
      ),
    )
