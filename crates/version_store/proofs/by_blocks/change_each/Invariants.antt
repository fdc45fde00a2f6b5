use Rattle.std.proofs.Common.{◌≡◌, ◌≤◌, ℕ, List, length, take}
use Rattle.version_store.specs.Underway.{ArePickedAt, IsUnderway, IsFurther}
use Rattle.version_store.proofs.by_blocks.change_each.Given as goal

abbrev pub invariant-loop-place : goal.invariant-loop-place
invariant-loop-place g l = record {
  size : length l.draft ≡ length l.fn.draft;
  further : (b old : List ℕ) → ArePickedAt b (g.T.Chooser.picks l.chooser) l.p l.numbers → IsUnderway b (g.T.Chooser.picks l.chooser) old l.fn.draft → IsFurther b (g.T.Chooser.picks l.chooser) old l.fn.draft l.draft (take l.place l.numbers) l.changed;
  small : l.changed ≤ l.place;
}
