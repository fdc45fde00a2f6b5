use Rattle.resolve_colour.proofs.pixels.+colour_side_by_side+fn-colour_side_by_side-join_mut+arg2+fn-colour_side_by_side-join_mut+arg3.Given as goal

abbrev pub decreases-join_mut+arg2 : goal.decreases-join_mut+arg2
decreases-join_mut+arg2 g l = l.front_workers

abbrev pub decreases-join_mut+arg3 : goal.decreases-join_mut+arg3
decreases-join_mut+arg3 g l = l.back_workers

abbrev pub decreases-colour_side_by_side : goal.decreases-colour_side_by_side
decreases-colour_side_by_side g l = l.workers
