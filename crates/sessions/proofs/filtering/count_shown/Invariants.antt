use Rattle.std.proofs.Common.{◌≡◌, ◌≤◌}
use Rattle.std.specs.List.{count_by, range_with_len}
use Rattle.sessions.specs.Passing.{record_passes}
use Rattle.sessions.proofs.filtering.count_shown.Given as goal

abbrev pub invariant-loop-k : goal.invariant-loop-k
invariant-loop-k l = record {
  counted : l.passing ≡ count_by (record_passes l.survey l.filter l.run l.first) (range_with_len 0 l.k);
  few : l.passing ≤ l.k;
}
