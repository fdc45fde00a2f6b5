use Rattle.std.proofs.Common.{◌≡◌, ap, ◌∙◌}
use Rattle.version_store.specs.declared.history.What.TheVariants.{Unpin}
use Rattle.version_store.specs.Versioned.{entry_by}
use Rattle.version_store.proofs.SharedCalls.{HasPinned-later}
use Rattle.version_store.proofs.SharedSteps.{gains_noted, history_begins}
use Rattle.version_store.proofs.over.SharedOver.unpin.Goals as goal

pub unpin-requires : goal.unpin-requires
unpin-requires g c =
    let history = g.V.Versioned.history in
    let caller = c.args.pass.now.who in
    let seen = c.args.pass.now.seen in
    let found = g.V.Replayed.entries c.enter-turn.result.1 in
    let who : c.who.result ≡ caller = c.who.ensures ∙ ap (λ p. p.who) c.enter-turn.ensures.pass in
    record {
      pinned = rw who
          (HasPinned-later caller c.args.pin.version (history seen) (history found) (history c.args.pass.now.mine)
          (history_begins history g.met.V.Versioned.history_append seen found c.enter-turn.ensures.seen)
          (g.met.V.Versioned.history_by caller seen ∙ ap history c.enter-turn.ensures.settled.own)
          (g.met.V.Versioned.history_by caller found ∙ ap history c.enter-turn.ensures.own)
          c.requires.pinned);
    }

pub note-requires-clause-entry : goal.note-requires-clause-entry
note-requires-clause-entry g c =
    gains_noted g.V.Replayed.maker g.V.Versioned.history (g.V.Versioned.plain c.who.result (Unpin c.args.pin.version)) (entry_by c.who.result (Unpin c.args.pin.version))
    (g.V.Replayed.entries c.enter-turn.result.1) (g.V.Replayed.entries c.unpin.new.self) c.enter-turn.result.0.noted c.enter-turn.new.pass.who
    c.unpin.ensures.made (ap (λ t. t.noted) c.enter-turn.ensures.turn) c.who.ensures
