use Rattle.sessions.proofs.counting.+count_side_by_side+fn-count_side_by_side-join_mut+arg2+fn-count_side_by_side-join_mut+arg3.Given as goal

abbrev pub decreases-join_mut+arg2 : goal.decreases-join_mut+arg2
decreases-join_mut+arg2 g l = l.front_workers

abbrev pub decreases-join_mut+arg3 : goal.decreases-join_mut+arg3
decreases-join_mut+arg3 g l = l.back_workers

abbrev pub decreases-count_side_by_side : goal.decreases-count_side_by_side
decreases-count_side_by_side g l = l.workers
