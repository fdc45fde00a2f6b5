use Rattle.std.proofs.Common.{◌≡◌, ◌+ℤ◌, ◌*ℤ◌, FitsSigned, w64, refl, arith}
use Rattle.std.proofs.lemmas.Int.{ints, to_z-of_z}
use Rattle.int_camera.specs.Kept.{IsNormal}
use Rattle.int_camera.proofs.half_space.mixed.Goals as goal

pub returns-clause-value : goal.returns-clause-value
returns-clause-value c =
    let times = c.ranges.times in
    let part = c.ranges.part in
    let others = c.ranges.others in
    let other = c.ranges.other in
    let first : FitsSigned w64 c.multiple.result = omega (arith, ints, c.multiple.ensures.bounds) in
    let second : FitsSigned w64 c.multiple-2.result = omega (arith, ints, c.multiple-2.ensures.bounds) in
    let fits : FitsSigned w64 (c.multiple.result +ℤ c.multiple-2.result) = omega (arith, ints, c.multiple.ensures.bounds, c.multiple-2.ensures.bounds) in
    let is_first : c.multiple.result ≡ c.args.times *ℤ c.args.part = simp to_z-of_z at c.multiple.ensures.value in
    let is_second : c.multiple-2.result ≡ c.args.others *ℤ c.args.other = simp to_z-of_z at c.multiple-2.ensures.value in
    simp to_z-of_z (rw (is_first, is_second) refl)

pub returns-clause-bounds : goal.returns-clause-bounds
returns-clause-bounds c =
    let first : FitsSigned w64 c.multiple.result = omega (arith, ints, c.multiple.ensures.bounds) in
    let second : FitsSigned w64 c.multiple-2.result = omega (arith, ints, c.multiple-2.ensures.bounds) in
    let fits : FitsSigned w64 (c.multiple.result +ℤ c.multiple-2.result) = omega (arith, ints, c.multiple.ensures.bounds, c.multiple-2.ensures.bounds) in
    let within : IsNormal (c.multiple.result +ℤ c.multiple-2.result) = omega (arith, ints, c.multiple.ensures.bounds, c.multiple-2.ensures.bounds) in
    simp to_z-of_z within
