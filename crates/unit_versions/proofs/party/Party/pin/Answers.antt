use Rattle.std.proofs.Common.{ap, arith}
use Rattle.version_store.specs.Store.{Pinned}
use Rattle.unit_versions.proofs.Owed.{IsOwed-pin}
use Rattle.unit_versions.proofs.party.Party.pin.Goals as goal

pub invariant_of-self : goal.invariant_of-self
invariant_of-self c = record { owed = rw c.reserve.ensures.items c.args.self.now.owed }

pub invariant_of-self-in-Break-branch-2 : goal.invariant_of-self-in-Break-branch-2
invariant_of-self-in-Break-branch-2 c = record { owed = rw (c.in_err-pin.ensures.refused, c.reserve.ensures.items) c.args.self.now.owed }

pub invariant_of-self-2 : goal.invariant_of-self-2
invariant_of-self-2 c =
    let room = c.push.ensures.succeeds (omega (arith, c.in_ok-reserve.ensures.ok)) in
    let caller = ap (λ (p : Pinned). p.who) c.in_ok-pin.ensures.pin in
    let version = ap (λ (p : Pinned). p.version) c.in_ok-pin.ensures.pin in
    record {
      owed = rw (rw (room, c.reserve.ensures.items) at c.push.ensures.items, c.in_ok-pin.ensures.pinned)
          (IsOwed-pin c.args.self.now.store.history c.args.self.now.pins.items c.args.who c.in_ok-pin.pin c.args.self.now.owed caller version);
    }
