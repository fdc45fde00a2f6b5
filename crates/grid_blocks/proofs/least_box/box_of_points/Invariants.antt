use Rattle.std.proofs.Common.{take}
use Rattle.grid_blocks.specs.LeastBox.{IsLeastBox}
use Rattle.grid_blocks.proofs.least_box.box_of_points.Given as goal

abbrev pub invariant-loop-i : goal.invariant-loop-i
invariant-loop-i l = IsLeastBox (take l.i l.points) l.area
