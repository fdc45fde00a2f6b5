use Rattle.std.proofs.Common.{◌≡◌, take}
use Rattle.splat_workers.specs.Waiting.{plotting}
use Rattle.splat_workers.proofs.batch.Batch.flush.Given as goal

abbrev pub invariant-loop-place : goal.invariant-loop-place
invariant-loop-place l = l.seat ≡ plotting l.fn.seat (take l.place l.self-inside.plots)
