use Rattle.grid_blocks.proofs.least_box.+box_side_by_side+fn-box_side_by_side-join+arg2+fn-box_side_by_side-join+arg3.Given as goal

abbrev pub decreases-join+arg2 : goal.decreases-join+arg2
decreases-join+arg2 g l = l.front_workers

abbrev pub decreases-join+arg3 : goal.decreases-join+arg3
decreases-join+arg3 g l = l.back_workers

abbrev pub decreases-box_side_by_side : goal.decreases-box_side_by_side
decreases-box_side_by_side g l = l.workers
