use Rattle.std.proofs.Common.{◌-◌, ◌≤◌, map}
use Rattle.std.specs.List.{range_with_len}
use Rattle.view_meaning.specs.Survey.{point_of}
use Rattle.grid_blocks.specs.LeastBox.{IsLeastBox}
use Rattle.grid_blocks.proofs.least_box.box_of_records.Given as goal

abbrev pub invariant-loop-i : goal.invariant-loop-i
invariant-loop-i l = record {
  least : IsLeastBox (map (point_of l.survey) (range_with_len l.first (l.i - l.first))) l.area;
  begun : l.first ≤ l.i;
}
