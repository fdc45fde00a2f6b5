use Rattle.std.proofs.Common.{◌≡◌, ℕ, ◌<◌, false}
use Rattle.view_words.specs.CommandLine.{texts, kind_at, is_refused}
use Rattle.view_words.proofs.refusing.first_refused.Given as goal

abbrev pub invariant-loop-at : goal.invariant-loop-at
invariant-loop-at l = (k : ℕ) → k < l.at → is_refused (kind_at l.row k) l.row (texts l.words) k ≡ false
