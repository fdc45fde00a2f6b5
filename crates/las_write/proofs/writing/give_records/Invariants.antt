use Rattle.std.proofs.Common.{◌≡◌, ◌≤◌, ◌-◌}
use Rattle.las_write.specs.Points.{saved_records}
use Rattle.view_ends.specs.Ends.{Gains}
use Rattle.las_write.proofs.writing.give_records.Given as goal

abbrev pub invariant-loop-given : goal.invariant-loop-given
invariant-loop-given g l = record {
  within : l.given ≤ l.records;
  got : Gains (g.K.Sink.got l.fn.sink) (saved_records l.survey l.classes 0 l.given) (g.K.Sink.got l.sink);
  calm : g.K.Sink.faults l.sink ≡ g.K.Sink.faults l.fn.sink;
}

abbrev pub decreases-loop-given : goal.decreases-loop-given
decreases-loop-given g l = l.records - l.given
