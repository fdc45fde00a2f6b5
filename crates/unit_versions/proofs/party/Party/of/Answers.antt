use Rattle.unit_versions.proofs.Owed.{IsOwed-nil}
use Rattle.unit_versions.proofs.party.Party.of.Goals as goal

pub invariant_of-result : goal.invariant_of-result
invariant_of-result c = record { owed = rw (c.requires, c.new.ensures.items) IsOwed-nil }
