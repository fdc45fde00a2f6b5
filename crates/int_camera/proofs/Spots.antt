-- Where a point shows, by its column, row and distance ahead.
use Rattle.std.proofs.Common.{◌≡◌, ℕ, suc, zero, ◌^◌, ◌≤◌, ℤ, pos, negsuc, ◌*ℤ◌, ◌<ℤ◌, ◌≤ℤ◌, nat_abs, Some, None, refl, arith}
use Rattle.std.proofs.lemmas.Int.{ints}
use Rattle.view_base.specs.declared.place.Point.{Point}
use Rattle.view_meaning.specs.Camera.{Lens, Projection, orthographic, perspective, spot, spot_by, dot, away, spot_at, spot_of, perspective_spot, floor, from_edge, between}
use Rattle.int_camera.specs.declared.camera.Camera.TheInside.{Inside}
use Rattle.int_camera.specs.Limits.{projection_of, scale_range}
use Rattle.int_camera.specs.Seen.{seen}

-- the camera that fields show
abbrev pub shown : Inside → Lens
shown c = record { kind = projection_of c.kind; width = c.width; height = c.height; eye = c.eye; right = c.right; down = c.down; forward = c.forward; scale = c.scale; unit = c.unit; near = c.near; far = c.far }

-- a point without a column
pub seen-no_column : (lens : Lens) (column row ahead : ℤ) → from_edge column lens.width ≡ None → seen lens (spot_at lens column row ahead) ≡ None
seen-no_column lens column row ahead none = rw none refl

-- a point without a row
pub seen-no_row : (lens : Lens) (column row ahead : ℤ) (c : ℕ) → from_edge column lens.width ≡ Some c → from_edge row lens.height ≡ None → seen lens (spot_at lens column row ahead) ≡ None
seen-no_row lens column row ahead c some none = rw (some, none) refl

-- a point with both
pub seen-placed : (lens : Lens) (column row ahead : ℤ) (c r : ℕ) → from_edge column lens.width ≡ Some c → from_edge row lens.height ≡ Some r → seen lens (spot_at lens column row ahead) ≡ seen lens (spot_of (Some c) (Some r) (between (floor ahead lens.unit) lens.near lens.far))
seen-placed lens column row ahead c r some also = rw (some, also) refl

-- a point that is not ahead of the eye
pub perspective_spot-behind : (lens : Lens) (across along ahead : ℤ) → ahead ≤ℤ pos 0 → perspective_spot lens across along ahead ≡ None
perspective_spot-behind lens across along (pos zero) behind = refl
perspective_spot-behind lens across along (pos (suc n)) behind = absurd (omega (arith, ints))
perspective_spot-behind lens across along (negsuc n) behind = refl

-- a point ahead of the eye
pub perspective_spot-ahead : (lens : Lens) (across along ahead : ℤ) → pos 0 <ℤ ahead → perspective_spot lens across along ahead ≡ spot_at lens (floor (across *ℤ pos lens.scale) (nat_abs ahead)) (floor (along *ℤ pos lens.scale) (nat_abs ahead)) ahead
perspective_spot-ahead lens across along (pos zero) ahead = absurd (omega (arith, ints))
perspective_spot-ahead lens across along (pos (suc n)) ahead = refl
perspective_spot-ahead lens across along (negsuc n) ahead = absurd (omega (arith, ints))

-- the spot of a point by its three distances
pub spot-by : (lens : Lens) (p : Point) (kind : Projection) (across along ahead : ℤ) → lens.kind ≡ kind → across ≡ dot lens.right (away p lens.eye) → along ≡ dot lens.down (away p lens.eye) → ahead ≡ dot lens.forward (away p lens.eye) → spot lens p ≡ spot_by kind lens across along ahead
unfolding spot
spot-by lens p kind across along ahead of_kind a b z = rw (of_kind, a, b, z) refl

-- the scale of a camera in perspective
pub scale_small : (kind : Projection) (scale : ℕ) → kind ≡ perspective → pos scale ≤ℤ (scale_range kind).1 → scale ≤ 2 ^ 20
scale_small orthographic scale is le = absurd (cc is)
scale_small perspective scale is le = omega (arith, ints, le)
