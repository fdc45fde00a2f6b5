use Rattle.std.proofs.Common.{◌+◌, ◌≤◌, length}
use Rattle.std.specs.List.{Any}
use Rattle.cull_boxes.specs.Outside.{Excludes}
use Rattle.cull_boxes.proofs.Keeping.{IsPicked}
use Rattle.cull_boxes.proofs.kept_blocks.kept_by.Given as goal

abbrev pub invariant-loop-k : goal.invariant-loop-k
invariant-loop-k g l = record {
  room : length l.blocks.blocks ≤ l.k + l.list.spare;
  few : length l.list.items ≤ l.k;
  picked : IsPicked (λ block. ¬ Any (λ s. Excludes (g.S.Cull.half_space s) block.area) l.spaces) l.blocks.blocks l.k l.list.items;
}
