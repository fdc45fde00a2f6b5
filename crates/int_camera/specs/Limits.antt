-- The numbers of a camera: the range of each, the first that is out of its range, and the camera that they describe.
use Rattle.std.specs.Prelude.{◌≡◌, ℕ, ◌+◌, ◌-◌, ◌^◌, Bool, ◌||◌, ℤ, pos, neg_ℤ, ◌*ℤ◌, int_lt, unsigned_abs, List, [], ◌∷◌, ◌++◌, slice_index_or, Option}
use Rattle.std.proofs.Common.{refl}
use Rattle.std.specs.List.{find, range_with_len}
use Rattle.std.specs.Option.{option_map}
use Rattle.view_base.specs.declared.place.Point.{Point}
use Rattle.view_meaning.specs.Camera.{Projection, orthographic, perspective, Lens}
use Rattle.int_camera.specs.declared.numbers.Kind.{Kind}
use Rattle.int_camera.specs.declared.numbers.Kind.TheVariants.{Ortho, Persp}
use Rattle.int_camera.specs.declared.numbers.CameraLimit.{CameraLimit}

-- the projection of a kind of camera
abbrev pub projection_of : Kind → Projection
projection_of Ortho = orthographic
projection_of Persp = perspective

-- the kind of camera that maps by a projection
abbrev pub kind_of : Projection → Kind
kind_of orthographic = Ortho
kind_of perspective = Persp

-- a kind is that of its projection
pub kind_of_projection : (kind : Kind) → kind_of (projection_of kind) ≡ kind
kind_of_projection Ortho = refl
kind_of_projection Persp = refl

-- the number of a place from 1
abbrev pub number : List ℤ → ℕ → ℤ
number n place = slice_index_or n (place - 1) (pos 0)

-- the numbers in the order in which they are looked at: the eighteen, and width times height
abbrev pub looked_at : List ℤ → List ℤ
looked_at n = n ++ (number n 1 *ℤ number n 2) ∷ []

-- what a width or height may be, in pixels
abbrev pub side : ℤ × ℤ
side = (pos 1, pos 4096)

-- what a coordinate of the eye may be: 32 bits with a sign
abbrev pub coordinate : ℤ × ℤ
coordinate = (neg_ℤ (pos 2147483648), pos 2147483647)

-- what a part of a vector may be: 16 bits with a sign
abbrev pub part : ℤ × ℤ
part = (neg_ℤ (pos 32768), pos 32767)

-- the greatest depth: no record's word is the empty one
abbrev pub deepest : ℤ
deepest = pos (2 ^ 32 - 2)

-- what the scale, or the focal number, may be
abbrev pub scale_range : Projection → ℤ × ℤ
scale_range orthographic = (pos 1, pos (2 ^ 40))
scale_range perspective = (pos 1, pos (2 ^ 20))

-- what the least depth may be: a point that is seen in perspective is ahead of the eye
abbrev pub near_range : Projection → ℤ × ℤ
near_range orthographic = (pos 0, deepest)
near_range perspective = (pos 1, deepest)

-- the least and the greatest of each number that is looked at, for a kind and a least depth
abbrev pub ranges : Projection → ℤ → List (ℤ × ℤ)
ranges kind near =
    side ∷ side ∷ coordinate ∷ coordinate ∷ coordinate
    ∷ part ∷ part ∷ part ∷ part ∷ part ∷ part ∷ part ∷ part ∷ part
    ∷ scale_range kind ∷ (pos 1, pos (2 ^ 40)) ∷ near_range kind ∷ (near, deepest) ∷ (pos 1, pos 9437184) ∷ []

-- whether a number is below the least or above the greatest of a range
abbrev pub is_out : ℤ × ℤ → ℤ → Bool
is_out range value = int_lt value range.0 || int_lt range.1 value

-- whether the number of a place from 1 to 19 is out of its range
unfoldable pub is_outside : Projection → List ℤ → ℕ → Bool
is_outside kind n place = is_out (slice_index_or (ranges kind (number n 17)) (place - 1) (pos 0, pos 0)) (number (looked_at n) place)

-- the first number of a camera that is out of its range, with its place, or none
unfoldable pub first_outside : Projection → List ℤ → Option CameraLimit
first_outside kind n = option_map (λ place. record { place = place; value = number (looked_at n) place }) (find (is_outside kind n) (range_with_len 1 19))

-- the three numbers from a place on, as a point
abbrev pub point_from : List ℤ → ℕ → Point
point_from n place = record { x = number n place; y = number n (place + 1); z = number n (place + 2) }

-- the camera that numbers in their ranges describe
abbrev pub lens_of : Projection → List ℤ → Lens
lens_of kind n = record {
  kind = kind;
  width = unsigned_abs (number n 1);
  height = unsigned_abs (number n 2);
  eye = point_from n 3;
  right = point_from n 6;
  down = point_from n 9;
  forward = point_from n 12;
  scale = unsigned_abs (number n 15);
  unit = unsigned_abs (number n 16);
  near = unsigned_abs (number n 17);
  far = unsigned_abs (number n 18);
}
