use Rattle.std.proofs.Common.{ℕ, ◌-◌, ◌/◌, ◌<◌, ◌≤◌, ◌^◌}
use Rattle.grid_blocks.proofs.grid.exponent_of.Given as goal

abbrev pub invariant-loop-exponent : goal.invariant-loop-exponent
invariant-loop-exponent l = record {
  least : (d : ℕ) → d < l.exponent → 64 ≤ l.extent / 2 ^ d;
  small : l.exponent ≤ 26;
}

abbrev pub decreases-loop-exponent : goal.decreases-loop-exponent
decreases-loop-exponent l = 26 - l.exponent
