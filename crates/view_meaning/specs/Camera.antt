-- Integer cameras: where a point falls in a picture, over whole numbers without bound.
use Rattle.std.specs.Prelude.{ℕ, suc, zero, ◌/◌, ◌+◌, ◌*◌, ◌&&◌, nat_lt, nat_le, if◌then◌else◌, ℤ, pos, negsuc, ◌+ℤ◌, ◌-ℤ◌, ◌*ℤ◌, Option, Some, None}
use Rattle.view_base.specs.declared.place.Point.{Point}

-- how a camera maps points: parallel to its forward vector, or through its eye
pub data Projection : Type 0 where
  orthographic : Projection
  perspective : Projection

-- a camera: picture size in pixels, eye, the three vectors, the scale (or focal number), the unit of
-- depth, and the range of depths that it shows
pub record Lens : Type 0 where
  pub kind : Projection
  pub width : ℕ
  pub height : ℕ
  pub eye : Point
  pub right : Point
  pub down : Point
  pub forward : Point
  pub scale : ℕ
  pub unit : ℕ
  pub near : ℕ
  pub far : ℕ

-- where a point falls: column from the left, row from the top, and depth
pub record Spot : Type 0 where
  pub column : ℕ
  pub row : ℕ
  pub depth : ℕ

-- n / k rounded down, for k above 0
abbrev pub floor : ℤ → ℕ → ℤ
floor (pos n) k = pos (n / k)
floor (negsuc n) k = negsuc (n / k)

-- the sum of the three products
abbrev pub dot : Point → Point → ℤ
dot v q = v.x *ℤ q.x +ℤ v.y *ℤ q.y +ℤ v.z *ℤ q.z

-- a point seen from the eye
abbrev pub away : Point → Point → Point
away p eye = record { x = p.x -ℤ eye.x; y = p.y -ℤ eye.y; z = p.z -ℤ eye.z }

-- a column or row counted from the middle, as one counted from the edge, where the picture has it
abbrev pub from_edge : ℤ → ℕ → Option ℕ
from_edge place size = at_least_zero (place +ℤ pos (size / 2)) where
  at_least_zero : ℤ → Option ℕ
  at_least_zero (pos n) = if nat_lt n size then Some n else None
  at_least_zero (negsuc n) = None

-- a depth, where it lies between near and far
abbrev pub between : ℤ → ℕ → ℕ → Option ℕ
between (pos n) near far = if nat_le near n && nat_le n far then Some n else None
between (negsuc n) near far = None

-- a spot, where all three parts are there
abbrev pub spot_of : Option ℕ → Option ℕ → Option ℕ → Option Spot
spot_of (Some column) (Some row) (Some depth) = Some (record { column = column; row = row; depth = depth })
spot_of _ _ _ = None

-- the spot of a point whose column and row from the middle, and distance ahead, are these
abbrev pub spot_at : Lens → ℤ → ℤ → ℤ → Option Spot
spot_at lens column row ahead =
    spot_of (from_edge column lens.width) (from_edge row lens.height) (between (floor ahead lens.unit) lens.near lens.far)

-- the perspective spot of a point: none where it is not ahead of the eye
abbrev pub perspective_spot : Lens → ℤ → ℤ → ℤ → Option Spot
perspective_spot lens across along (pos zero) = None
perspective_spot lens across along (pos (suc n)) =
    spot_at lens (floor (across *ℤ pos lens.scale) (suc n)) (floor (along *ℤ pos lens.scale) (suc n)) (pos (suc n))
perspective_spot lens across along (negsuc n) = None

-- the spot of a point that is this far to the right of, below and ahead of the eye
abbrev pub spot_by : Projection → Lens → ℤ → ℤ → ℤ → Option Spot
spot_by orthographic lens across along ahead = spot_at lens (floor across lens.scale) (floor along lens.scale) ahead
spot_by perspective lens across along ahead = perspective_spot lens across along ahead

-- where a point falls in a camera's picture, or none where it is not in view
unfoldable pub spot : Lens → Point → Option Spot
spot lens p = spot_by lens.kind lens (dot lens.right (away p lens.eye)) (dot lens.down (away p lens.eye)) (dot lens.forward (away p lens.eye))

-- the pixel of a spot, counted row by row from the top left
abbrev pub pixel_of : Lens → Spot → ℕ
pixel_of lens s = s.row * lens.width + s.column
