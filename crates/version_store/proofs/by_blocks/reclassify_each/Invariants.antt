use Rattle.std.proofs.Common.{◌≡◌, ◌≤◌, ℕ, List, length, take, map}
use Rattle.view_meaning.specs.Survey.{point_of}
use Rattle.version_store.specs.Underway.{IsUnderway, IsFurther}
use Rattle.version_store.proofs.by_blocks.reclassify_each.Given as goal

abbrev pub invariant-loop-place : goal.invariant-loop-place
invariant-loop-place g l = record {
  size : length l.draft ≡ length l.fn.draft;
  further : (b old : List ℕ) → l.points ≡ map (point_of b) l.numbers → IsUnderway b (g.T.Chooser.picks l.chooser) old l.fn.draft → IsFurther b (g.T.Chooser.picks l.chooser) old l.fn.draft l.draft (take l.place l.numbers) l.changed;
  small : l.changed ≤ l.place;
}
