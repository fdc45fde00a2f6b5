use Rattle.std.proofs.Common.{◌-◌, ◌≤◌}
use Rattle.grid_blocks.proofs.Runs.{IsAlone}
use Rattle.grid_blocks.proofs.by_cells.run_length.Given as goal

abbrev pub invariant-loop-count : goal.invariant-loop-count
invariant-loop-count l = record {
  some : 1 ≤ l.count;
  few : l.count ≤ l.most;
  alone : IsAlone l.count l.words;
}

abbrev pub decreases-loop-count : goal.decreases-loop-count
decreases-loop-count l = l.most - l.count
