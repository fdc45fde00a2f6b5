use Rattle.std.proofs.Common.{◌≡◌, ◌≤◌, ◌-◌, length, take}
use Rattle.view_ends.specs.Ends.{Gains}
use Rattle.view_ends.proofs.giving.give_all.Given as goal

abbrev pub invariant-loop-given : goal.invariant-loop-given
invariant-loop-given g l = record {
  within : l.given ≤ length l.piece;
  got : Gains (g.S.Sink.got l.fn.sink) (take l.given l.piece) (g.S.Sink.got l.sink);
  calm : g.S.Sink.faults l.sink ≡ g.S.Sink.faults l.fn.sink;
}

abbrev pub decreases-loop-given : goal.decreases-loop-given
decreases-loop-given g l = length l.piece - l.given
