use Rattle.std.proofs.Common.{◌*◌, ◌+◌}
use Rattle.grid_blocks.proofs.by_cells.+halves.Given as goal

abbrev pub decreases-write_side_by_side : goal.decreases-write_side_by_side
decreases-write_side_by_side g l = 2 * l.workers + 1

abbrev pub decreases-write_both : goal.decreases-write_both
decreases-write_both g l = 2 * l.workers

abbrev pub decreases-write_both-join_mut+arg2 : goal.decreases-write_both-join_mut+arg2
decreases-write_both-join_mut+arg2 g l = 2 * l.front_workers + 1

abbrev pub decreases-write_both-join_mut+arg3 : goal.decreases-write_both-join_mut+arg3
decreases-write_both-join_mut+arg3 g l = 2 * l.back_workers + 1
