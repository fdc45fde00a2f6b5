use Rattle.std.proofs.Common.{length}
use Rattle.std.specs.Arc.{arc_value}
use Rattle.class_pages.proofs.Pages.{IsBuilt}
use Rattle.class_pages.proofs.draft.Draft.into_classes.Given as goal

abbrev pub invariant-loop-page : goal.invariant-loop-page
invariant-loop-page l = IsBuilt arc_value l.fn.self (length l.yielded) l.pages.items
