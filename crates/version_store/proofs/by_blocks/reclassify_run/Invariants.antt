use Rattle.std.proofs.Common.{◌≡◌, ◌≤◌, ℕ, List, length, take}
use Rattle.std.specs.List.{range_with_len}
use Rattle.version_store.specs.Underway.{IsUnderway, IsFurther}
use Rattle.version_store.proofs.by_blocks.reclassify_run.Given as goal

abbrev pub invariant-loop-place : goal.invariant-loop-place
invariant-loop-place g l = record {
  size : length l.draft ≡ length l.fn.draft;
  further : (old : List ℕ) → IsUnderway l.survey (g.T.Chooser.picks l.chooser) old l.fn.draft → IsFurther l.survey (g.T.Chooser.picks l.chooser) old l.fn.draft l.draft (take l.place (range_with_len l.first l.count)) l.changed;
  small : l.changed ≤ l.place;
}
