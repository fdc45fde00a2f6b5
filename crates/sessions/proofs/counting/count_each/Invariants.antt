use Rattle.std.proofs.Common.{◌≡◌, ◌-◌, ◌≤◌}
use Rattle.std.specs.List.{count_by, range_with_len}
use Rattle.view_meaning.specs.Classes.{passes}
use Rattle.sessions.proofs.counting.count_each.Given as goal

abbrev pub invariant-loop-done : goal.invariant-loop-done
invariant-loop-done l = record {
  within : l.done ≤ l.count;
  counted : l.passing ≡ count_by (passes l.survey l.classes l.filter) (range_with_len l.first l.done);
  few : l.passing ≤ l.done;
}

abbrev pub decreases-loop-done : goal.decreases-loop-done
decreases-loop-done l = l.count - l.done
