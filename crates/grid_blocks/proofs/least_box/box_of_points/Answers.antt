use Rattle.std.proofs.Common.{List, subst, sym, take}
use Rattle.std.proofs.lemmas.List.{take_more, take_all}
use Rattle.view_base.specs.declared.place.Point.{Point}
use Rattle.grid_blocks.specs.LeastBox.{IsLeastBox}
use Rattle.grid_blocks.proofs.Boxes.{least_box_first}
use Rattle.grid_blocks.proofs.least_box.box_of_points.Goals as goal

pub loop-i-init : goal.loop-i-init
loop-i-init c = least_box_first c.args.points.now _ c.requires

pub loop-i-preserved : goal.loop-i-preserved
loop-i-preserved c =
    subst (λ (l : List Point). IsLeastBox l c.widened-area.result) (sym (take_more c.args.points.now c.loop-i.i _ c.loop-i-test.true)) (c.widened-area.ensures (take c.loop-i.i c.args.points.now) c.loop-i.invariant)

pub returns : goal.returns
returns c = subst (λ (l : List Point). IsLeastBox l c.loop-i.area) (take_all c.loop-i.i c.args.points.now c.loop-i-test.false) c.loop-i.invariant
