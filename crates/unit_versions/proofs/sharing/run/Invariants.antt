use Rattle.std.proofs.Common.{◌≡◌}
use Rattle.unit_versions.proofs.sharing.run.Given as goal

abbrev pub invariant-loop : goal.invariant-loop
invariant-loop g l = l.pass ≡ record l.fn.pass { seen = l.pass.seen; mine = l.pass.mine }
