-- Cells of a grid.
use Rattle.std.proofs.Common.{◌≡◌, ℕ, ℤ, ◌+◌, ◌*◌, ◌/◌, ◌^◌, ◌<◌, ◌≤◌, ◌-ℤ◌, true, ◌∙◌, ap, arith, w32, to_z, of_z, FitsSigned}
use Rattle.std.proofs.lemmas.Int.{ints, to_z-of_z}
use Rattle.std.proofs.Math.Nat.{div-lt_iff_lt-mul}
use Rattle.std.proofs.lemmas.Nat.{pow_pos}
use Rattle.std.specs.Int.RustNames.{unsigned_abs}
use Rattle.std.specs.Prelude.{IsTrue}
use lib.Signed.{le_z}
use Rattle.view_base.specs.declared.place.Point.{Point}
use Rattle.view_base.specs.declared.place.Box3.{Box3}
use Rattle.view_meaning.specs.Classes.{in_box}
use Rattle.grid_blocks.specs.Grid.{IsExponent, extent, cell, key}
use Rattle.grid_blocks.proofs.Boxes.{inside-from_box}

abs_le : (low at high : ℤ) → le_z low at ≡ true → le_z at high ≡ true → unsigned_abs (at -ℤ low) ≤ unsigned_abs (high -ℤ low)
abs_le low at high from to = grind (arith, ints)

within_cells : (e x g : ℕ) → x ≤ g → g / 2 ^ e < 64 → x / 2 ^ e < 64
within_cells e x g le small =
    let some : 0 < 2 ^ e = pow_pos e in
    let below : g < 64 * 2 ^ e = (div-lt_iff_lt-mul some).0 small in
    (div-lt_iff_lt-mul some).1 (omega arith)

-- the cells of a point in the box are below 64
pub record AreSmall (area : Box3) (e : ℕ) (p : Point) : Type 0 where
  pub x : cell e area.min.x p.x < 64
  pub y : cell e area.min.y p.y < 64
  pub z : cell e area.min.z p.z < 64

pub cells_small : (area : Box3) (e : ℕ) (p : Point) → IsExponent area e → IsTrue (in_box area p) → AreSmall area e p
cells_small area e p is within =
    let h = inside-from_box area p within in
    let x : unsigned_abs (area.max.x -ℤ area.min.x) ≤ extent area = omega arith in
    let y : unsigned_abs (area.max.y -ℤ area.min.y) ≤ extent area = omega arith in
    let z : unsigned_abs (area.max.z -ℤ area.min.z) ≤ extent area = omega arith in
    let at_x : unsigned_abs (p.x -ℤ area.min.x) ≤ extent area = omega (arith, x, abs_le area.min.x p.x area.max.x h.above_x h.below_x) in
    let at_y : unsigned_abs (p.y -ℤ area.min.y) ≤ extent area = omega (arith, y, abs_le area.min.y p.y area.max.y h.above_y h.below_y) in
    let at_z : unsigned_abs (p.z -ℤ area.min.z) ≤ extent area = omega (arith, z, abs_le area.min.z p.z area.max.z h.above_z h.below_z) in
    record { x = within_cells e _ _ at_x is.fits; y = within_cells e _ _ at_y is.fits; z = within_cells e _ _ at_z is.fits }

-- a cell that was computed on the bits of two coordinates
pub cell_read : (e result : ℕ) (low at : ℤ) → FitsSigned w32 low → FitsSigned w32 at → result ≡ cell e (to_z w32 (of_z w32 low)) (to_z w32 (of_z w32 at)) → result ≡ cell e low at
cell_read e result low at fits_low fits_at is =
    is ∙ ap (λ (l : ℤ). cell e l (to_z w32 (of_z w32 at))) (to_z-of_z w32 low fits_low) ∙ ap (cell e low) (to_z-of_z w32 at fits_at)

pub below_64 : (result value : ℕ) → result ≡ value → value < 64 → result < 64
below_64 result value is small = omega arith

pub key_of_cells : (area : Box3) (e x y z : ℕ) (p : Point) → x ≡ cell e area.min.x p.x → y ≡ cell e area.min.y p.y → z ≡ cell e area.min.z p.z → (z * 64 + y) * 64 + x ≡ key area e p
unfolding key
key_of_cells area e x y z p at_x at_y at_z =
    ap (λ (z : ℕ). (z * 64 + y) * 64 + x) at_z ∙ ap (λ (y : ℕ). (cell e area.min.z p.z * 64 + y) * 64 + x) at_y
    ∙ ap (λ (x : ℕ). (cell e area.min.z p.z * 64 + cell e area.min.y p.y) * 64 + x) at_x

pub key_small : (area : Box3) (e : ℕ) (p : Point) → IsExponent area e → IsTrue (in_box area p) → key area e p < 2 ^ 18
unfolding key
key_small area e p is within =
    let small = cells_small area e p is within in
    below (cell e area.min.x p.x) (cell e area.min.y p.y) (cell e area.min.z p.z) small.x small.y small.z
  where
    below : (x y z : ℕ) → x < 64 → y < 64 → z < 64 → (z * 64 + y) * 64 + x < 2 ^ 18
    below x y z small_x small_y small_z = omega arith
