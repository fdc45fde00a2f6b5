use Rattle.std.proofs.Common.{ap}
use Rattle.version_store.specs.Store.{Pinned}
use Rattle.version_store.proofs.SharedCalls.{HasPinned-shown}
use Rattle.unit_versions.proofs.sharing.pin_and_unpin.Goals as goal

pub unpin-requires-clause-pinned : goal.unpin-requires-clause-pinned
unpin-requires-clause-pinned g c =
    HasPinned-shown c.args.pass.now c.pin.new.pass c.expect-pin.result.version c.requires.own c.pin.ensures.own
    (rw c.expect-pin.ensures at c.pin.ensures.made)
    (ap (λ (p : Pinned). p.version) (rw c.expect-pin.ensures at c.pin.ensures.pin))
