use Rattle.std.proofs.Common.{◌≡◌, ◌∙◌, FitsSigned, ap, arith}
use Rattle.std.proofs.lemmas.Int.{ints, to_z-of_z}
use mir.Syntax.{w128}
use Rattle.view_meaning.specs.Camera.{Lens}
use Rattle.int_camera.specs.HalfSpaces.{past_eye, from_near}
use Rattle.int_camera.proofs.Spots.{shown}
use Rattle.int_camera.proofs.half_space.from_near.Goals as goal

pub returns : goal.returns
returns c =
    let lens : Lens = shown c.camera.inside in
    let fits : FitsSigned w128 c.steps.result = omega (arith, ints, c.steps.ensures.bounds) in
    let made : c.past_along.result ≡ past_eye lens.eye lens.forward c.steps.result = simp to_z-of_z at c.past_along.ensures in
    made ∙ ap (past_eye lens.eye lens.forward) c.steps.ensures.value ∙ ap from_near c.camera.view_is
