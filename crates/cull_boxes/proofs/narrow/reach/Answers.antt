use Rattle.std.proofs.Common.{◌≡◌, ◌↔◌, ◌^◌, ℤ, pos, ◌*ℤ◌, ◌≤ℤ◌, FitsSigned, w32, w64, arith, rules}
use Rattle.std.specs.Prelude.{IsTrue}
use Rattle.std.specs.Int.{int_max}
use Rattle.std.proofs.lemmas.Int.{ints, to_z-of_z, fits_signed_mul}
use lib.Signed.{le_z}
use Rattle.int_camera.proofs.Products.{abs_within, product_small}
use Rattle.cull_boxes.proofs.Corners.{le_z_tells}
use Rattle.cull_boxes.proofs.narrow.reach.Goals as goal

pub returns-clause-value : goal.returns-clause-value
returns-clause-value c =
    let part_fits = c.ranges.part in
    let one = c.ranges.one in
    let other = c.ranges.other in
    let fits : FitsSigned w32 c.farther.result = search rules in
    let coordinate : c.from.result ≡ c.farther.result = simp to_z-of_z at c.from.ensures in
    let part_abs = abs_within c.args.part (2 ^ 30) c.requires.0 c.requires.1 in
    let abs = abs_within c.farther.result (2 ^ 31) (omega (arith, ints, fits)) (omega (arith, ints, fits)) in
    let wide : FitsSigned w64 c.farther.result = omega (arith, ints, fits) in
    let product_fits = fits_signed_mul w64 c.args.part c.farther.result (2 ^ 30) (2 ^ 31) part_abs abs (omega arith) in
    let far : (part : ℤ) → IsTrue (le_z (pos 0) c.args.part) ↔ pos 0 ≤ℤ part → part *ℤ c.farther.result ≡ int_max (part *ℤ c.args.one) (part *ℤ c.args.other) =
    simp to_z-of_z at c.farther.ensures in
    rw coordinate (simp to_z-of_z (far c.args.part (le_z_tells (pos 0) c.args.part)))

pub returns-clause-bounds : goal.returns-clause-bounds
returns-clause-bounds c =
    let part_fits = c.ranges.part in
    let one = c.ranges.one in
    let other = c.ranges.other in
    let fits : FitsSigned w32 c.farther.result = search rules in
    let coordinate : c.from.result ≡ c.farther.result = simp to_z-of_z at c.from.ensures in
    let part_abs = abs_within c.args.part (2 ^ 30) c.requires.0 c.requires.1 in
    let abs = abs_within c.farther.result (2 ^ 31) (omega (arith, ints, fits)) (omega (arith, ints, fits)) in
    let wide : FitsSigned w64 c.farther.result = omega (arith, ints, fits) in
    let product_fits = fits_signed_mul w64 c.args.part c.farther.result (2 ^ 30) (2 ^ 31) part_abs abs (omega arith) in
    rw coordinate (simp to_z-of_z (product_small c.args.part c.farther.result (2 ^ 30) (2 ^ 31) part_abs abs))
