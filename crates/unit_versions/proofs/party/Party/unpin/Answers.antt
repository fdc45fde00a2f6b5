use Rattle.std.proofs.Common.{sym, subst, arith}
use Rattle.version_store.specs.Histories.{HasPinned}
use Rattle.unit_versions.proofs.Owed.{owed-pinned, IsOwed-unpin}
use Rattle.unit_versions.proofs.party.Party.unpin.Goals as goal

pub unpin-requires : goal.unpin-requires
unpin-requires c = record {
  pinned = subst (λ n. HasPinned c.args.self.now.store.history n c.swap_remove-pin.result.version) (sym c.who.ensures)
      (owed-pinned c.args.self.now.store.history c.args.self.now.pins.items c.args.place c.swap_remove-pin.result c.args.self.now.owed (omega arith) c.swap_remove-pin.ensures.value);
}

pub invariant_of-self : goal.invariant_of-self
invariant_of-self c = record {
  owed = rw (c.unpin.ensures.unpinned, c.swap_remove-pin.ensures.items, c.who.ensures)
      (IsOwed-unpin c.args.self.now.store.history c.args.self.now.pins.items c.args.place c.swap_remove-pin.result c.args.self.now.owed (omega arith) c.swap_remove-pin.ensures.value);
}
