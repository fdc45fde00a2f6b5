use Rattle.std.proofs.Common.{◌≡◌, take}
use Rattle.version_store.specs.Histories.{journal}
use Rattle.view_commands.specs.Run.{journal_text}
use Rattle.view_commands.proofs.journal.journal_text.Given as goal

abbrev pub invariant-loop-i : goal.invariant-loop-i
invariant-loop-i l = l.text.items ≡ journal_text (journal (take l.i l.history))
