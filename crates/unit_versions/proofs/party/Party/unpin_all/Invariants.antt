use Rattle.unit_versions.proofs.party.Party.unpin_all.Given as goal

abbrev pub invariant-loop-self : goal.invariant-loop-self
invariant-loop-self l = Unit {0}

abbrev pub decreases-loop-self : goal.decreases-loop-self
decreases-loop-self l = l.self.pins.len
