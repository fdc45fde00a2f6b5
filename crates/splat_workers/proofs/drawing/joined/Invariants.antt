use Rattle.std.proofs.Common.{◌≡◌, true, length}
use Rattle.splat_workers.specs.Working.{HasDrawn, HaveDrawn}
use Rattle.splat_workers.proofs.drawing.joined.Given as goal

abbrev pub invariant-loop-worker : goal.invariant-loop-worker
invariant-loop-worker l = record {
  root : HasDrawn l.plan l.frame.name l.root;
  is_root : l.root.root ≡ true;
  out : l.root.out ≡ length l.others.items;
  others : HaveDrawn l.plan l.frame.name l.others.items;
}

abbrev pub decreases-loop-worker : goal.decreases-loop-worker
decreases-loop-worker l = length l.others.items
