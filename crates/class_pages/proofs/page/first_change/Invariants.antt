use Rattle.class_pages.specs.Choosing.{IsSame}
use Rattle.class_pages.proofs.page.first_change.Given as goal

abbrev pub invariant-loop-i : goal.invariant-loop-i
invariant-loop-i g l = IsSame l.survey l.first (g.T.Chooser.picks l.chooser) l.i l.classes
