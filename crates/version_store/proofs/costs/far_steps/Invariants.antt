use Rattle.std.proofs.Common.{◌≤◌, ◌+◌}
use Rattle.version_store.proofs.costs.far_steps.Given as goal

abbrev pub invariant-loop-place : goal.invariant-loop-place
invariant-loop-place l = record { far : l.far + 1 ≤ l.place; few : l.place ≤ 16 }
