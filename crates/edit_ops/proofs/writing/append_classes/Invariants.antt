use Rattle.std.proofs.Common.{◌≡◌, ◌+◌, ◌-◌, ◌*◌, ◌≤◌, ◌++◌}
use Rattle.edit_ops.specs.EditLine.{runs}
use Rattle.edit_ops.specs.Reading.{members_from}
use Rattle.edit_ops.proofs.ListText.{text_from}
use Rattle.edit_ops.proofs.writing.append_classes.Given as goal

abbrev pub invariant-loop-first : goal.invariant-loop-first
invariant-loop-first l = record {
  text : l.out.items ++ text_from l.from (runs (members_from l.classes l.from)) ≡ l.initial.out.items ++ text_from 0 (runs (members_from l.classes 0));
  room : l.initial.out.spare ≤ l.out.spare + 8 * l.from;
  within : l.from ≤ 256;
}

abbrev pub decreases-loop-first : goal.decreases-loop-first
decreases-loop-first l = 256 - l.from
