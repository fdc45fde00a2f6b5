use Rattle.std.proofs.Common.{◌≡◌, ◌-◌, take, drop}
use Rattle.std.specs.List.{flat_map}
use Rattle.splat_workers.specs.Pairs.{block_pairs}
use Rattle.splat_workers.specs.Waiting.{drawn, plotting}
use Rattle.splat_workers.proofs.piece.draw_piece.Given as goal

abbrev pub invariant-loop-place : goal.invariant-loop-place
invariant-loop-place l = record {
  drawn : drawn l.seat l.batch ≡ plotting l.fn.seat (flat_map (block_pairs l.plan.survey.now l.plan.classes.now l.plan.camera.now l.plan.filter.now l.plan.blocks.now) (take (l.place - l.first) (drop l.first l.plan.kept.now)));
  frame : l.seat.frame ≡ l.fn.seat.frame;
  waits : l.batch.pixels ≡ l.frame.pixels;
}
