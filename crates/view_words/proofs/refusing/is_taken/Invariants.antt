use Rattle.std.proofs.Common.{◌≡◌, ℕ, ◌<◌, false}
use Rattle.view_words.specs.CommandLine.{texts, barred}
use Rattle.view_words.proofs.refusing.is_taken.Given as goal

abbrev pub invariant-loop-earlier : goal.invariant-loop-earlier
invariant-loop-earlier l = (j : ℕ) → j < l.earlier → barred l.row (texts l.words) l.at j ≡ false
