use Rattle.std.proofs.Common.{◌≡◌, ◌^◌, FitsSigned, w64, arith}
use Rattle.std.proofs.lemmas.Int.{ints, to_z-of_z, fits_signed_mul}
use Rattle.int_camera.proofs.Products.{abs_within, product_small}
use Rattle.int_camera.proofs.half_space.multiple.Goals as goal

pub returns-clause-bounds : goal.returns-clause-bounds
returns-clause-bounds c =
    let times_abs = abs_within c.args.times (2 ^ 20) c.requires.times.0 c.requires.times.1 in
    let part_abs = abs_within c.args.part 32768 c.requires.part.0 (omega (arith, ints, c.requires.part)) in
    let times_fits = c.ranges.times in
    let part_fits = c.ranges.part in
    let part_64 : FitsSigned w64 c.args.part = omega (arith, ints, c.requires.part) in
    let part : c.from.result ≡ c.args.part = simp to_z-of_z at c.from.ensures in
    let fits = fits_signed_mul w64 c.args.times c.args.part (2 ^ 20) 32768 times_abs part_abs (omega arith) in
    rw part (simp to_z-of_z (product_small c.args.times c.args.part (2 ^ 20) 32768 times_abs part_abs))

pub returns-clause-value : goal.returns-clause-value
returns-clause-value c =
    let times_abs = abs_within c.args.times (2 ^ 20) c.requires.times.0 c.requires.times.1 in
    let part_abs = abs_within c.args.part 32768 c.requires.part.0 (omega (arith, ints, c.requires.part)) in
    let times_fits = c.ranges.times in
    let part_fits = c.ranges.part in
    let part_64 : FitsSigned w64 c.args.part = omega (arith, ints, c.requires.part) in
    let part : c.from.result ≡ c.args.part = simp to_z-of_z at c.from.ensures in
    let fits = fits_signed_mul w64 c.args.times c.args.part (2 ^ 20) 32768 times_abs part_abs (omega arith) in
    rw part (simp to_z-of_z)
