use Rattle.std.proofs.Common.{length, drop}
use Rattle.turn_gate.proofs.gate.Gate.note.Given as goal

abbrev pub ghosts-count : goal.ghosts-count
ghosts-count g a = record { more = drop (length a.turn.now.noted) (g.S.Replayed.entries a.value.now) }
