-- The six half-spaces of a camera: a point is in view exactly where it lies in each of them.
use Rattle.std.specs.Prelude.{ℕ, ◌+◌, ◌-◌, ◌*◌, ◌/◌, ℤ, pos, neg_ℤ, ◌+ℤ◌, ◌-ℤ◌, ◌*ℤ◌, ◌≤ℤ◌, List, [], ◌∷◌, IsSome}
use Rattle.view_base.specs.declared.place.Point.{Point}
use Rattle.view_meaning.specs.Camera.{Projection, orthographic, perspective, Lens, dot, spot}
use Rattle.int_camera.specs.declared.half_space.HalfSpace.{HalfSpace}
use Rattle.int_camera.specs.Kept.{IsNormal}

-- whether a point lies in a half-space: as far along its normal as the half-space begins
abbrev pub Meets : HalfSpace → Point → Type 0
Meets h p = h.c ≤ℤ (h.nx *ℤ p.x +ℤ h.ny *ℤ p.y +ℤ h.nz *ℤ p.z)

-- a half-space whose normal's parts are in range
pub record HasNormal (h : HalfSpace) : Type 0 where
  pub nx : IsNormal h.nx
  pub ny : IsNormal h.ny
  pub nz : IsNormal h.nz

-- a vector that is this many times as long
abbrev pub times : ℤ → Point → Point
times k v = record { x = k *ℤ v.x; y = k *ℤ v.y; z = k *ℤ v.z }

-- a vector and then another
abbrev pub plus : Point → Point → Point
plus v w = record { x = v.x +ℤ w.x; y = v.y +ℤ w.y; z = v.z +ℤ w.z }

-- a vector the other way
abbrev pub opposite : Point → Point
opposite v = record { x = neg_ℤ v.x; y = neg_ℤ v.y; z = neg_ℤ v.z }

-- the half-space that begins this far past the eye along a normal
abbrev pub past_eye : Point → Point → ℤ → HalfSpace
past_eye eye normal far = record { nx = normal.x; ny = normal.y; nz = normal.z; c = dot normal eye +ℤ far }

-- what is not left of, or above, a picture of this many columns or rows along a vector
abbrev pub from_first : Projection → Lens → Point → ℕ → HalfSpace
from_first orthographic lens v size = past_eye lens.eye v (neg_ℤ (pos (size / 2 * lens.scale)))
from_first perspective lens v size = past_eye lens.eye (plus (times (pos lens.scale) v) (times (pos (size / 2)) lens.forward)) (pos 0)

-- what is not right of it, or below it
abbrev pub to_last : Projection → Lens → Point → ℕ → HalfSpace
to_last orthographic lens v size = past_eye lens.eye (opposite v) (pos 1 -ℤ pos ((size - size / 2) * lens.scale))
to_last perspective lens v size = past_eye lens.eye (plus (times (pos (size - size / 2)) lens.forward) (times (neg_ℤ (pos lens.scale)) v)) (pos 1)

-- what is no nearer than the least depth
abbrev pub from_near : Lens → HalfSpace
from_near lens = past_eye lens.eye lens.forward (pos (lens.near * lens.unit))

-- what is no farther than the greatest depth
abbrev pub to_far : Lens → HalfSpace
to_far lens = past_eye lens.eye (opposite lens.forward) (pos 1 -ℤ pos ((lens.far + 1) * lens.unit))

-- the six half-spaces of a camera: by columns, by rows and by depth
abbrev pub half_spaces : Lens → List HalfSpace
half_spaces lens =
    from_first lens.kind lens lens.right lens.width ∷ to_last lens.kind lens lens.right lens.width
    ∷ from_first lens.kind lens lens.down lens.height ∷ to_last lens.kind lens lens.down lens.height
    ∷ from_near lens ∷ to_far lens ∷ []

-- whether a point is in a camera's view
abbrev pub IsInView : Lens → Point → Type 0
IsInView lens p = IsSome (spot lens p)
