use Rattle.grid_blocks.proofs.copies.+fn-write_side_by_side-join_mut+arg2+fn-write_side_by_side-join_mut+arg3+write_side_by_side.Given as goal

abbrev pub decreases-join_mut+arg2 : goal.decreases-join_mut+arg2
decreases-join_mut+arg2 g l = l.front_workers

abbrev pub decreases-join_mut+arg3 : goal.decreases-join_mut+arg3
decreases-join_mut+arg3 g l = l.back_workers

abbrev pub decreases-write_side_by_side : goal.decreases-write_side_by_side
decreases-write_side_by_side g l = l.workers
