use Rattle.std.proofs.Common.{◌≡◌, ◌≤◌, length}
use Rattle.std.specs.List.Sorted.{IsPermutation}
use Rattle.grid_blocks.proofs.sorting.partition.Given as goal

abbrev pub invariant-loop-at : goal.invariant-loop-at
invariant-loop-at l = IsPermutation l.initial.words l.words × (length l.words ≡ length l.initial.words) × (l.below ≤ l.at)
