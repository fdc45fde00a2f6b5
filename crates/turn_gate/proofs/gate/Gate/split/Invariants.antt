use Rattle.std.proofs.Common.{[], ◌∷◌}
use Rattle.turn_gate.proofs.gate.Gate.split.Given as goal

abbrev pub ghosts-part : goal.ghosts-part
ghosts-part g a = record { firsts = a.gate.now.first ∷ [] }
