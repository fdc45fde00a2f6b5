use Rattle.std.proofs.Common.{◌-◌, ◌/◌, ◌^◌, ◌≤◌, length, get_or}
use Rattle.std.specs.List.{All}
use Rattle.grid_blocks.specs.Blocks.{Follow, part}
use Rattle.grid_blocks.specs.Cells.{IsRun}
use Rattle.grid_blocks.specs.LeastBox.{IsLeastBox}
use Rattle.grid_blocks.proofs.by_cells.cut.Given as goal

abbrev pub invariant-loop-first : goal.invariant-loop-first
invariant-loop-first l = record {
  within : l.first ≤ length l.words;
  follow : Follow 0 l.list.items l.first;
  sizes : All (λ block. (1 ≤ block.count) × (block.count ≤ 1024)) l.list.items;
  areas : All (λ block. IsLeastBox (part block l.points) block.area) l.list.items;
  runs : All (IsRun (λ place. get_or l.words place 0 / 2 ^ 26) (length l.words)) l.list.items;
}

abbrev pub decreases-loop-first : goal.decreases-loop-first
decreases-loop-first l = length l.words - l.first
