use Rattle.std.proofs.Common.{◌+◌}
use Rattle.view_meaning.specs.Survey.{format_of, class_byte}
use Rattle.view_meaning.specs.Classes.{class_of}
use Rattle.class_pages.proofs.Steps.{IsMadeBelow}
use Rattle.class_pages.proofs.Fitting.{FitsBelow}
use Rattle.class_pages.proofs.page.read_classes.Given as goal

abbrev pub invariant-loop-i : goal.invariant-loop-i
invariant-loop-i l = record {
  made : IsMadeBelow l.i (λ k. class_of (format_of l.survey) (class_byte l.survey (l.first + k))) l.fn.list l.list;
  fits : FitsBelow l.i (format_of l.survey) l.list;
}
