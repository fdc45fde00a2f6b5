use Rattle.std.proofs.Common.{◌≡◌, ◌+◌, ◌-◌, ◌≤◌, length}
use Rattle.splat_workers.specs.Working.{AreNumbered, AreReady}
use Rattle.splat_workers.proofs.drawing.split_off.Given as goal

abbrev pub invariant-loop-number : goal.invariant-loop-number
invariant-loop-number l = record {
  root : l.root ≡ record l.fn.root { ends = l.workers + 1 - l.number; out = l.number - 1 };
  ready : AreReady l.frame.name l.others.items;
  numbers : AreNumbered l.others.items;
  size : length l.others.items + 1 ≡ l.number;
  room : l.workers + 1 ≤ l.others.spare + l.number;
}
