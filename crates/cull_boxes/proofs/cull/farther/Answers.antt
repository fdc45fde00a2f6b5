use Rattle.std.proofs.Common.{◌≡◌, ◌∙◌, ℤ, ◌*ℤ◌, FitsSigned, w32, ap, rules}
use Rattle.std.specs.Int.{int_max, int_min}
use Rattle.std.proofs.lemmas.Int.{to_z-of_z}
use Rattle.cull_boxes.proofs.Corners.{product-greater, product-lesser, untrue}
use Rattle.cull_boxes.proofs.cull.farther.Goals as goal

pub returns-then-rising : goal.returns-then-rising
returns-then-rising c part rises =
    let one = c.ranges.one in
    let other = c.ranges.other in
    let fits : FitsSigned w32 c.max.result = search rules in
    let is : c.max.result ≡ int_max c.args.one c.args.other = simp to_z-of_z at c.max.ensures.value in
    ap (λ (z : ℤ). part *ℤ z) (to_z-of_z w32 c.max.result fits ∙ is) ∙ product-greater part c.args.one c.args.other (rises.0 c.if-rising.true)

pub returns-else-rising : goal.returns-else-rising
returns-else-rising c part rises =
    let one = c.ranges.one in
    let other = c.ranges.other in
    let fits : FitsSigned w32 c.min.result = search rules in
    let is : c.min.result ≡ int_min c.args.one c.args.other = simp to_z-of_z at c.min.ensures.value in
    ap (λ (z : ℤ). part *ℤ z) (to_z-of_z w32 c.min.result fits ∙ is) ∙ product-lesser part c.args.one c.args.other (untrue c.args.rising _ rises.1 c.if-rising.false)
