use Rattle.std.proofs.Common.{◌≡◌, ◌-◌}
use Rattle.min_frame.proofs.Claiming.{above_all}
use Rattle.splat_workers.specs.Drawing.{claimed_pairs}
use Rattle.splat_workers.proofs.worker.work.Given as goal

abbrev pub invariant-loop-claimed : goal.invariant-loop-claimed
invariant-loop-claimed g l = record {
  frame : l.worker.seat.frame ≡ l.frame.name;
  plots : l.worker.seat.plots ≡ claimed_pairs l.plan l.worker.seat.claims;
  ends : l.worker.seat.ends ≡ 1;
  root : l.worker.seat.root ≡ l.fn.worker.seat.root;
  out : l.worker.seat.out ≡ l.fn.worker.seat.out;
}

abbrev pub decreases-loop-claimed : goal.decreases-loop-claimed
decreases-loop-claimed g l = l.frame.blocks - above_all l.worker.seat.claims
