use Rattle.std.proofs.Common.{◌∙◌, ap}
use Rattle.std.specs.List.{position}
use Rattle.pin_ledger.specs.Ledger.{is_of}
use Rattle.pin_ledger.proofs.Counting.{pinned_exactly}
use Rattle.pin_ledger.proofs.pins.Pins.is_pinned.Goals as goal

pub returns : goal.returns
returns c =
    rw c.is_some.ensures
    (pinned_exactly c.self.inside.kept.items c.args.self.now.pinned c.args.version c.place_of.result (ap (λ l. l.pinned) c.self.view_is) c.self.invariant
    (c.place_of.ensures ∙ ap (position (is_of c.args.version)) c.as_slice.ensures.value))
