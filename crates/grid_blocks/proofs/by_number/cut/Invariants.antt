use Rattle.std.proofs.Common.{◌≡◌, ◌+◌, ◌-◌, ◌<◌, ◌≤◌, map}
use Rattle.std.specs.List.{All, range_with_len}
use Rattle.view_meaning.specs.Survey.{point_of, record_count}
use Rattle.grid_blocks.specs.Blocks.{Follow}
use Rattle.grid_blocks.specs.LeastBox.{IsLeastBox}
use Rattle.grid_blocks.proofs.by_number.cut.Given as goal

abbrev pub invariant-loop-first : goal.invariant-loop-first
invariant-loop-first l = record {
  within : l.first ≤ record_count l.survey;
  follow : Follow 0 l.list.items l.first;
  sizes : All (λ block. (1 ≤ block.count) × (block.count ≤ 1024)) l.list.items;
  areas : All (λ block. IsLeastBox (map (point_of l.survey) (range_with_len block.first block.count)) block.area) l.list.items;
  full : All (λ block. block.count < 1024 → block.first + block.count ≡ record_count l.survey) l.list.items;
}

abbrev pub decreases-loop-first : goal.decreases-loop-first
decreases-loop-first l = record_count l.survey - l.first
