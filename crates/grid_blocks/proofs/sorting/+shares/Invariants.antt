use Rattle.std.proofs.Common.{◌*◌, ◌+◌}
use Rattle.grid_blocks.proofs.sorting.+shares.Given as goal

abbrev pub decreases-sort_side_by_side : goal.decreases-sort_side_by_side
decreases-sort_side_by_side g l = 2 * l.workers + 1

abbrev pub decreases-sort_both : goal.decreases-sort_both
decreases-sort_both g l = 2 * l.workers

abbrev pub decreases-sort_both-join_mut+arg2 : goal.decreases-sort_both-join_mut+arg2
decreases-sort_both-join_mut+arg2 g l = 2 * l.front_workers + 1

abbrev pub decreases-sort_both-join_mut+arg3 : goal.decreases-sort_both-join_mut+arg3
decreases-sort_both-join_mut+arg3 g l = 2 * l.back_workers + 1
