use Rattle.std.proofs.Common.{◌^◌, w64, arith}
use Rattle.std.proofs.lemmas.Int.{ints, to_z-of_z, fits_signed_mul}
use Rattle.int_camera.proofs.Products.{abs_within, product_small}
use Rattle.int_camera.proofs.projection.product.Goals as goal

pub returns-clause-bounds : goal.returns-clause-bounds
returns-clause-bounds c =
    let v_abs = abs_within c.args.part 32768 c.requires.part.0 (omega (arith, ints, c.requires.part)) in
    let q_abs = abs_within c.args.distance (2 ^ 32) c.requires.distance.0 c.requires.distance.1 in
    let v_fits = c.ranges.part in
    let q_fits = c.ranges.distance in
    let fits = fits_signed_mul w64 c.args.part c.args.distance 32768 (2 ^ 32) v_abs q_abs (omega arith) in
    simp to_z-of_z (product_small c.args.part c.args.distance 32768 (2 ^ 32) v_abs q_abs)

pub returns-clause-value : goal.returns-clause-value
returns-clause-value c =
    let v_abs = abs_within c.args.part 32768 c.requires.part.0 (omega (arith, ints, c.requires.part)) in
    let q_abs = abs_within c.args.distance (2 ^ 32) c.requires.distance.0 c.requires.distance.1 in
    let v_fits = c.ranges.part in
    let q_fits = c.ranges.distance in
    let fits = fits_signed_mul w64 c.args.part c.args.distance 32768 (2 ^ 32) v_abs q_abs (omega arith) in
    simp to_z-of_z
