use Rattle.std.proofs.Common.{◌≡◌, ◌-◌}
use Rattle.std.specs.List.{flat_map, range_with_len}
use Rattle.splat_workers.specs.Pairs.{pair_of}
use Rattle.splat_workers.specs.Waiting.{drawn, plotting}
use Rattle.splat_workers.proofs.block.plot_passing_numbered.Given as goal

abbrev pub invariant-loop-number : goal.invariant-loop-number
invariant-loop-number l = record {
  drawn : drawn l.seat l.batch ≡ plotting (drawn l.fn.seat l.fn.batch) (flat_map (pair_of l.plan.survey.now l.plan.classes.now l.plan.camera.now l.plan.filter.now) (range_with_len l.first (l.number - l.first)));
  frame : l.seat.frame ≡ l.fn.seat.frame;
  waits : l.batch.pixels ≡ l.frame.pixels;
}
