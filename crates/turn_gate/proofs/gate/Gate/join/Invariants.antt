use Rattle.std.proofs.Common.{[], ◌∷◌}
use Rattle.turn_gate.proofs.gate.Gate.join.Given as goal

abbrev pub ghosts-merge : goal.ghosts-merge
ghosts-merge g a = record { firsts = a.gate.now.first ∷ [] }
