use Rattle.std.proofs.Common.{◌≤◌, ◌*◌}
use Rattle.version_store.proofs.costs.is_quicker_by_pages.Given as goal

abbrev pub invariant-loop-number : goal.invariant-loop-number
invariant-loop-number g l = l.cost ≤ l.number * 108544
