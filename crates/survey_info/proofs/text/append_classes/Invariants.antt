use Rattle.std.proofs.Common.{◌≡◌, ◌≤◌, ◌+◌, ◌*◌, ◌++◌}
use Rattle.survey_info.proofs.Lines.{lines_below}
use Rattle.survey_info.proofs.text.append_classes.Given as goal

abbrev pub invariant-loop-class : goal.invariant-loop-class
invariant-loop-class l = record {
  text : l.out.items ≡ l.initial.out.items ++ lines_below l.counts l.class;
  room : 12288 ≤ l.out.spare + 48 * l.class;
}
