-- A spot is within its picture and between near and far.
use Rattle.std.proofs.Common.{◌≡◌, ℕ, zero, suc, ◌<◌, ◌≤◌, Option, Some, None, ℤ, pos, negsuc, refl, arith}
use Rattle.std.proofs.lemmas.Bool.Decides.{nat_tests}
use Rattle.view_base.specs.declared.place.Point.{Point}
use Rattle.view_meaning.specs.Camera.{Lens, Spot, Projection, orthographic, perspective, from_edge, between, spot_of, spot_at, spot_by, spot, floor}

-- within a picture of this size, and no deeper than far
pub record IsWithin (width height far : ℕ) (s : Spot) : Type 0 where
  pub across : s.column < width
  pub down : s.row < height
  pub no_deeper : s.depth ≤ far

from_edge_below : (place : ℤ) (size n : ℕ) → from_edge place size ≡ Some n → n < size
from_edge_below place size n is = grind (arith, nat_tests)

between_far : (z : ℤ) (near far n : ℕ) → between z near far ≡ Some n → n ≤ far
between_far (pos k) near far n is = grind (arith, nat_tests)
between_far (negsuc k) near far n is = absurd (cc is)

spot_of_within : (width height far : ℕ) (column row depth : Option ℕ) (s : Spot)
    → ((n : ℕ) → column ≡ Some n → n < width) → ((n : ℕ) → row ≡ Some n → n < height) → ((n : ℕ) → depth ≡ Some n → n ≤ far)
    → spot_of column row depth ≡ Some s → IsWithin width height far s
spot_of_within width height far (Some column) (Some row) (Some depth) s across down deep is =
    let column_is : column ≡ s.column = cc is in
    let row_is : row ≡ s.row = cc is in
    let depth_is : depth ≡ s.depth = cc is in
    record { across = omega (arith, across column refl); down = omega (arith, down row refl); no_deeper = omega (arith, deep depth refl) }
spot_of_within width height far (Some column) (Some row) None s across down deep is = absurd (cc is)
spot_of_within width height far (Some column) None depth s across down deep is = absurd (cc is)
spot_of_within width height far None row depth s across down deep is = absurd (cc is)

spot_at_within : (lens : Lens) (column row ahead : ℤ) (s : Spot) → spot_at lens column row ahead ≡ Some s → IsWithin lens.width lens.height lens.far s
spot_at_within lens column row ahead s is =
    spot_of_within lens.width lens.height lens.far _ _ _ s (from_edge_below column lens.width) (from_edge_below row lens.height) (between_far (floor ahead lens.unit) lens.near lens.far) is

spot_by_within : (kind : Projection) (lens : Lens) (across along ahead : ℤ) (s : Spot) → spot_by kind lens across along ahead ≡ Some s → IsWithin lens.width lens.height lens.far s
spot_by_within orthographic lens across along ahead s is = spot_at_within lens _ _ ahead s is
spot_by_within perspective lens across along (pos zero) s is = absurd (cc is)
spot_by_within perspective lens across along (pos (suc n)) s is = spot_at_within lens _ _ (pos (suc n)) s is
spot_by_within perspective lens across along (negsuc n) s is = absurd (cc is)

-- a spot is within its camera's picture, and no deeper than far
pub spot_within : (lens : Lens) (p : Point) (s : Spot) → spot lens p ≡ Some s → IsWithin lens.width lens.height lens.far s
unfolding spot
spot_within lens p s is = spot_by_within lens.kind lens _ _ _ s is
