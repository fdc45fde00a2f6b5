use Rattle.std.proofs.Common.{◌≡◌, ℕ, ◌≤◌, true}
use Rattle.view_meaning.specs.Classes.{has}
use Rattle.edit_ops.proofs.runs.run_end.Given as goal

abbrev pub invariant-loop-class : goal.invariant-loop-class
invariant-loop-class l = (k : ℕ) → l.fn.first ≤ k → k ≤ l.class → has l.classes k ≡ true
