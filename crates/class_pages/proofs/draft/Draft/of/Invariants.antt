use Rattle.class_pages.specs.Drafts.{classes_on}
use Rattle.class_pages.proofs.Pages.{IsBuilt}
use Rattle.class_pages.proofs.draft.Draft.of.Given as goal

abbrev pub invariant-loop-k : goal.invariant-loop-k
invariant-loop-k l = IsBuilt classes_on l.version l.k l.pages.items
