use Rattle.std.proofs.Common.{◌≡◌, ◌∙◌, neg_ℤ, FitsSigned, w32, w64, arith, rules}
use Rattle.std.proofs.lemmas.Int.{ints, to_z-of_z}
use Rattle.int_camera.specs.HalfSpaces.{opposite, past_eye}
use Rattle.int_camera.proofs.Vectors.{past_eye-parts}
use Rattle.int_camera.proofs.half_space.past_against.Goals as goal

pub returns : goal.returns
returns c =
    let far = c.ranges.far in
    let vector_x : FitsSigned w32 c.args.vector.now.x = search rules in
    let x_fits : FitsSigned w64 c.negative.result = omega (arith, ints, c.negative.ensures.bounds) in
    let x : c.negative.result ≡ neg_ℤ c.args.vector.now.x = simp to_z-of_z at c.negative.ensures.value in
    let vector_y : FitsSigned w32 c.args.vector.now.y = search rules in
    let y_fits : FitsSigned w64 c.negative-2.result = omega (arith, ints, c.negative-2.ensures.bounds) in
    let y : c.negative-2.result ≡ neg_ℤ c.args.vector.now.y = simp to_z-of_z at c.negative-2.ensures.value in
    let vector_z : FitsSigned w32 c.args.vector.now.z = search rules in
    let z_fits : FitsSigned w64 c.negative-3.result = omega (arith, ints, c.negative-3.ensures.bounds) in
    let z : c.negative-3.result ≡ neg_ℤ c.args.vector.now.z = simp to_z-of_z at c.negative-3.ensures.value in
    let made : c.past_eye.result ≡ past_eye c.args.eye.now (record { x = c.negative.result; y = c.negative-2.result; z = c.negative-3.result }) c.args.far = simp to_z-of_z at c.past_eye.ensures in
    made ∙ past_eye-parts c.args.eye.now (opposite c.args.vector.now) _ _ _ c.args.far x y z
