use Rattle.std.proofs.Common.{◌≡◌, take}
use Rattle.std.specs.List.{flat_map}
use Rattle.splat_workers.specs.Pairs.{pair_of}
use Rattle.splat_workers.specs.Waiting.{drawn, plotting}
use Rattle.splat_workers.proofs.block.plot_passing.Given as goal

abbrev pub invariant-loop-place : goal.invariant-loop-place
invariant-loop-place l = record {
  drawn : drawn l.seat l.batch ≡ plotting (drawn l.fn.seat l.fn.batch) (flat_map (pair_of l.plan.survey.now l.plan.classes.now l.plan.camera.now l.plan.filter.now) (take l.place l.numbers));
  frame : l.seat.frame ≡ l.fn.seat.frame;
  waits : l.batch.pixels ≡ l.frame.pixels;
}
