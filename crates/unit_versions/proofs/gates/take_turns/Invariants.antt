use Rattle.std.proofs.Common.{◌≡◌}
use Rattle.unit_versions.proofs.gates.take_turns.Given as goal

abbrev pub invariant-loop-number : goal.invariant-loop-number
invariant-loop-number g l = l.pass ≡ record l.fn.pass { seen = l.pass.seen; mine = l.pass.mine }
