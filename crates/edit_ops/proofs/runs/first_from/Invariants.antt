use Rattle.std.proofs.Common.{◌≡◌}
use Rattle.edit_ops.specs.Reading.{members_from}
use Rattle.edit_ops.proofs.runs.first_from.Given as goal

abbrev pub invariant-loop-class : goal.invariant-loop-class
invariant-loop-class l = members_from l.classes l.fn.from ≡ members_from l.classes l.class
