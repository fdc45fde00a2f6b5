use Rattle.std.proofs.Common.{◌≡◌, ◌∙◌, ◌-◌, ◌*◌, ◌/◌, ◌^◌, ◌≤◌, ℤ, pos, neg_ℤ, ◌-ℤ◌, to_z, FitsSigned, w64, ap, sym, subst, arith}
use Rattle.std.proofs.lemmas.Int.{ints, to_z-of_z, to_z_pos}
use mir.Syntax.{w128}
use Rattle.view_meaning.specs.Camera.{Lens, Projection, orthographic, perspective}
use Rattle.int_camera.specs.Limits.{projection_of}
use Rattle.int_camera.specs.Kept.{IsFactor, IsFar}
use Rattle.int_camera.specs.HalfSpaces.{opposite, past_eye, plus, times, to_last}
use Rattle.int_camera.proofs.Spots.{shown, scale_small}
use Rattle.int_camera.proofs.half_space.to_last.Goals as goal

-- nothing less a number
less_than_none : (k : ℤ) → pos 0 -ℤ k ≡ neg_ℤ k
less_than_none k = omega (arith, ints)

pub past_against-requires-clause-far : goal.past_against-requires-clause-far
past_against-requires-clause-far c =
    let fits : FitsSigned w128 c.steps.result = omega (arith, ints, c.steps.ensures.bounds) in
    let rest : FitsSigned w128 (pos 1 -ℤ c.steps.result) = omega (arith, ints, c.steps.ensures.bounds) in
    let far : IsFar (pos 1 -ℤ c.steps.result) = (omega (arith, ints, c.steps.ensures.bounds), omega (arith, ints, c.steps.ensures.bounds)) in
    simp to_z-of_z far

pub past_mixed-requires-clause-again : goal.past_mixed-requires-clause-again
past_mixed-requires-clause-again c =
    let lens : Lens = shown c.camera.inside in
    let kind : lens.kind ≡ perspective = ap projection_of c.in-Persp.is in
    let small : lens.scale ≤ 2 ^ 20 = scale_small _ lens.scale kind c.camera.invariant.1.scale.1 in
    let scale : to_z w64 lens.scale ≡ pos lens.scale = to_z_pos w64 lens.scale (omega (arith, small)) in
    let back : pos 0 -ℤ to_z w64 lens.scale ≡ neg_ℤ (pos lens.scale) = ap (λ (k : ℤ). pos 0 -ℤ k) scale ∙ less_than_none (pos lens.scale) in
    let back_fits : FitsSigned w64 (pos 0 -ℤ to_z w64 lens.scale) = subst (FitsSigned w64) (sym back) (omega (arith, ints, small)) in
    let within : IsFactor (pos 0 -ℤ to_z w64 lens.scale) = subst IsFactor (sym back) (omega (arith, ints, small), omega (arith, ints, small)) in
    simp to_z-of_z within

pub returns-in-Ortho : goal.returns-in-Ortho
returns-in-Ortho c =
    let lens : Lens = shown c.camera.inside in
    let kind : lens.kind ≡ orthographic = ap projection_of c.in-Ortho.is in
    let fits : FitsSigned w128 c.steps.result = omega (arith, ints, c.steps.ensures.bounds) in
    let rest : FitsSigned w128 (pos 1 -ℤ c.steps.result) = omega (arith, ints, c.steps.ensures.bounds) in
    let made : c.past_against.result ≡ past_eye lens.eye (opposite c.args.vector.now) (pos 1 -ℤ c.steps.result) = simp to_z-of_z at c.past_against.ensures in
    let far : pos 1 -ℤ c.steps.result ≡ pos 1 -ℤ pos ((c.args.size - c.args.size / 2) * lens.scale) = omega (arith, ints, c.steps.ensures.value) in
    made ∙ ap (past_eye lens.eye (opposite c.args.vector.now)) far ∙ ap (λ (k : Projection). to_last k lens c.args.vector.now c.args.size) (sym kind) ∙ ap (λ (l : Lens). to_last l.kind l c.args.vector.now c.args.size) c.camera.view_is

pub returns-in-Persp : goal.returns-in-Persp
returns-in-Persp c =
    let lens : Lens = shown c.camera.inside in
    let kind : lens.kind ≡ perspective = ap projection_of c.in-Persp.is in
    let small : lens.scale ≤ 2 ^ 20 = scale_small _ lens.scale kind c.camera.invariant.1.scale.1 in
    let half_fits : FitsSigned w64 c.from.result = omega (arith, ints, c.from.ensures, c.requires.size) in
    let scale : to_z w64 lens.scale ≡ pos lens.scale = to_z_pos w64 lens.scale (omega (arith, small)) in
    let back : pos 0 -ℤ to_z w64 lens.scale ≡ neg_ℤ (pos lens.scale) = ap (λ (k : ℤ). pos 0 -ℤ k) scale ∙ less_than_none (pos lens.scale) in
    let back_fits : FitsSigned w64 (pos 0 -ℤ to_z w64 lens.scale) = subst (FitsSigned w64) (sym back) (omega (arith, ints, small)) in
    let made : c.past_mixed.result ≡ past_eye lens.eye (plus (times c.from.result lens.forward) (times (pos 0 -ℤ to_z w64 lens.scale) c.args.vector.now)) (pos 1) = simp to_z-of_z at c.past_mixed.ensures in
    made ∙ ap (λ (k : ℤ). past_eye lens.eye (plus (times c.from.result lens.forward) (times k c.args.vector.now)) (pos 1)) back ∙ ap (λ (half : ℤ). past_eye lens.eye (plus (times half lens.forward) (times (neg_ℤ (pos lens.scale)) c.args.vector.now)) (pos 1)) c.from.ensures ∙ ap (λ (k : Projection). to_last k lens c.args.vector.now c.args.size) (sym kind) ∙ ap (λ (l : Lens). to_last l.kind l c.args.vector.now c.args.size) c.camera.view_is
