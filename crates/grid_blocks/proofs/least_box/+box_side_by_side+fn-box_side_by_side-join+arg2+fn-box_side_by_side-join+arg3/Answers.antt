use Rattle.std.proofs.Common.{refl, arith}
use Rattle.grid_blocks.proofs.Boxes.{least_box-halves}
use Rattle.grid_blocks.proofs.least_box.+box_side_by_side+fn-box_side_by_side-join+arg2+fn-box_side_by_side-join+arg3.Goals as goal

pub returns : goal.returns
returns g t c =
    least_box-halves c.args.survey.now c.args.first _ _ _ c.args.count c.joined.result refl (omega (arith, c.front_share.ensures.within)) (c.joined.ensures _ _ c.join.ensures.first c.join.ensures.second)
