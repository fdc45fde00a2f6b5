use Rattle.std.proofs.Common.{◌*◌, []}
use Rattle.std.specs.Arc.{arc_value}
use Rattle.view_meaning.specs.Classes.{classes}
use Rattle.view_meaning.specs.Survey.{format_of}
use Rattle.class_pages.proofs.Fitting.{FitsBelow}
use Rattle.class_pages.proofs.Pages.{IsBuilt}
use Rattle.class_pages.proofs.classes.base.Given as goal

abbrev pub invariant-loop-k : goal.invariant-loop-k
invariant-loop-k l = record {
  built : IsBuilt arc_value (classes l.survey []) l.k l.pages.items;
  fits : FitsBelow (l.k * 4096) (format_of l.survey) (classes l.survey []);
}
