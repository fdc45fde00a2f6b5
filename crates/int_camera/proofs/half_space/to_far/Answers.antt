use Rattle.std.proofs.Common.{◌≡◌, ◌∙◌, ℤ, pos, ◌-ℤ◌, FitsSigned, ap, arith}
use Rattle.std.proofs.lemmas.Int.{ints, to_z-of_z}
use mir.Syntax.{w128}
use Rattle.view_meaning.specs.Camera.{Lens}
use Rattle.int_camera.specs.Kept.{IsFar}
use Rattle.int_camera.specs.HalfSpaces.{opposite, past_eye, to_far}
use Rattle.int_camera.proofs.Spots.{shown}
use Rattle.int_camera.proofs.half_space.to_far.Goals as goal

pub past_against-requires-clause-far : goal.past_against-requires-clause-far
past_against-requires-clause-far c =
    let fits : FitsSigned w128 c.steps.result = omega (arith, ints, c.steps.ensures.bounds) in
    let rest : FitsSigned w128 (pos 1 -ℤ c.steps.result) = omega (arith, ints, c.steps.ensures.bounds) in
    let far : IsFar (pos 1 -ℤ c.steps.result) = (omega (arith, ints, c.steps.ensures.bounds), omega (arith, ints, c.steps.ensures.bounds)) in
    simp to_z-of_z far

pub returns : goal.returns
returns c =
    let lens : Lens = shown c.camera.inside in
    let fits : FitsSigned w128 c.steps.result = omega (arith, ints, c.steps.ensures.bounds) in
    let rest : FitsSigned w128 (pos 1 -ℤ c.steps.result) = omega (arith, ints, c.steps.ensures.bounds) in
    let made : c.past_against.result ≡ past_eye lens.eye (opposite lens.forward) (pos 1 -ℤ c.steps.result) = simp to_z-of_z at c.past_against.ensures in
    made ∙ ap (λ (far : ℤ). past_eye lens.eye (opposite lens.forward) (pos 1 -ℤ far)) c.steps.ensures.value ∙ ap to_far c.camera.view_is
