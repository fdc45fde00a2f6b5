use Rattle.std.proofs.Common.{◌≡◌, [], ◌∷◌}
use Rattle.turn_gate.proofs.gate.Gate.enter.Given as goal

abbrev pub ghosts-take_turn : goal.ghosts-take_turn
ghosts-take_turn g a = record { firsts = a.gate.now.first ∷ [] }

abbrev pub invariant-loop : goal.invariant-loop
invariant-loop g l = l.pass ≡ l.fn.pass
