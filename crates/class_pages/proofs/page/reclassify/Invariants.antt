use Rattle.std.proofs.Common.{◌≡◌, ◌+◌, ◌≤◌, get_or}
use Rattle.view_meaning.specs.Survey.{point_of}
use Rattle.class_pages.proofs.Steps.{IsMadeBelow, count_below}
use Rattle.class_pages.proofs.page.reclassify.Given as goal

abbrev pub invariant-loop-i : goal.invariant-loop-i
invariant-loop-i g l = record {
  made : IsMadeBelow l.i (λ k. g.T.Chooser.picks l.chooser (point_of l.survey (l.first + k)) (get_or l.fn.list k 0)) l.fn.list l.list;
  count : l.count ≡ count_below l.i (λ k. g.T.Chooser.picks l.chooser (point_of l.survey (l.first + k)) (get_or l.fn.list k 0)) l.fn.list;
  small : l.count ≤ l.i;
}
