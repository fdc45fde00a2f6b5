use Rattle.std.proofs.Common.{◌≡◌, ◌∙◌, ◌+ℤ◌, ◌*ℤ◌, FitsSigned, w32, w64, arith, rules}
use Rattle.std.proofs.lemmas.Int.{ints, to_z-of_z}
use Rattle.int_camera.specs.HalfSpaces.{past_eye, plus, times}
use Rattle.int_camera.proofs.Vectors.{past_eye-parts}
use Rattle.int_camera.proofs.half_space.past_mixed.Goals as goal

pub returns : goal.returns
returns c =
    let far = c.ranges.far in
    let often = c.ranges.often in
    let again = c.ranges.again in
    let vector_x : FitsSigned w32 c.args.vector.now.x = search rules in
    let other_x : FitsSigned w32 c.args.other.now.x = search rules in
    let x_fits : FitsSigned w64 c.mixed.result = omega (arith, ints, c.mixed.ensures.bounds) in
    let x : c.mixed.result ≡ c.args.often *ℤ c.args.vector.now.x +ℤ c.args.again *ℤ c.args.other.now.x = simp to_z-of_z at c.mixed.ensures.value in
    let vector_y : FitsSigned w32 c.args.vector.now.y = search rules in
    let other_y : FitsSigned w32 c.args.other.now.y = search rules in
    let y_fits : FitsSigned w64 c.mixed-2.result = omega (arith, ints, c.mixed-2.ensures.bounds) in
    let y : c.mixed-2.result ≡ c.args.often *ℤ c.args.vector.now.y +ℤ c.args.again *ℤ c.args.other.now.y = simp to_z-of_z at c.mixed-2.ensures.value in
    let vector_z : FitsSigned w32 c.args.vector.now.z = search rules in
    let other_z : FitsSigned w32 c.args.other.now.z = search rules in
    let z_fits : FitsSigned w64 c.mixed-3.result = omega (arith, ints, c.mixed-3.ensures.bounds) in
    let z : c.mixed-3.result ≡ c.args.often *ℤ c.args.vector.now.z +ℤ c.args.again *ℤ c.args.other.now.z = simp to_z-of_z at c.mixed-3.ensures.value in
    let made : c.past_eye.result ≡ past_eye c.args.eye.now (record { x = c.mixed.result; y = c.mixed-2.result; z = c.mixed-3.result }) c.args.far = simp to_z-of_z at c.past_eye.ensures in
    made ∙ past_eye-parts c.args.eye.now (plus (times c.args.often c.args.vector.now) (times c.args.again c.args.other.now)) _ _ _ c.args.far x y z
