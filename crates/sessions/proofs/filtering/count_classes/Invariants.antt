use Rattle.std.proofs.Common.{◌≡◌, ◌≤◌}
use Rattle.std.specs.List.{count_by, range_with_len}
use Rattle.sessions.specs.Passing.{class_passes}
use Rattle.sessions.proofs.filtering.count_classes.Given as goal

abbrev pub invariant-loop-k : goal.invariant-loop-k
invariant-loop-k l = record {
  counted : l.passing ≡ count_by (class_passes l.filter l.run) (range_with_len 0 l.k);
  few : l.passing ≤ l.k;
}
