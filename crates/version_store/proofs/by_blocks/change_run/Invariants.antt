use Rattle.std.proofs.Common.{◌≡◌, ◌≤◌, ℕ, List, length, take}
use Rattle.std.specs.List.{range_with_len}
use Rattle.version_store.specs.Underway.{ArePickedAt, IsUnderway, IsFurther}
use Rattle.version_store.proofs.by_blocks.change_run.Given as goal

abbrev pub invariant-loop-place : goal.invariant-loop-place
invariant-loop-place g l = record {
  size : length l.draft ≡ length l.fn.draft;
  further : (b old : List ℕ) → ArePickedAt b (g.T.Chooser.picks l.chooser) l.p (range_with_len l.first l.count) → IsUnderway b (g.T.Chooser.picks l.chooser) old l.fn.draft → IsFurther b (g.T.Chooser.picks l.chooser) old l.fn.draft l.draft (take l.place (range_with_len l.first l.count)) l.changed;
  small : l.changed ≤ l.place;
}
