use Rattle.std.proofs.Common.{ap, sym, ◌∙◌}
use Rattle.version_store.specs.declared.history.What.TheVariants.{Pin}
use Rattle.version_store.specs.Versioned.{Gains, entry_by}
use Rattle.version_store.proofs.SharedSteps.{gains_noted, on_ok, pin_shown}
use Rattle.version_store.proofs.over.SharedOver.pin.Goals as goal

pub note-requires-clause-entry : goal.note-requires-clause-entry
note-requires-clause-entry g c =
    let old = g.V.Replayed.entries c.enter-turn.result.1 in
    let new = g.V.Replayed.entries c.pin-answer.new.self in
    let entry = g.V.Versioned.plain c.who.result Pin in
    let gains = on_ok c.pin-answer.result (Gains g.V.Replayed.maker g.V.Versioned.history entry (entry_by c.who.result Pin) old new) (sym c.is_ok.ensures.value ∙ c.if-is_ok.true) c.pin-answer.ensures.made in
    gains_noted g.V.Replayed.maker g.V.Versioned.history entry (entry_by c.who.result Pin) old new c.enter-turn.result.0.noted c.enter-turn.new.pass.who
    gains (ap (λ t. t.noted) c.enter-turn.ensures.turn) c.who.ensures

pub returns-clause-pin : goal.returns-clause-pin
returns-clause-pin g c =
    pin_shown c.pin-answer.result g.V.Replayed.maker g.V.Versioned.history (g.V.Versioned.plain c.who.result Pin)
    (g.V.Replayed.entries c.enter-turn.result.1) (g.V.Replayed.entries c.pin-answer.new.self) c.leave.new.pass.seen c.who.result c.args.pass.now.who
    (g.V.Versioned.bytes c.enter-turn.result.1) (g.V.Versioned.bytes c.args.self.now.first)
    (c.who.ensures ∙ ap (λ p. p.who) c.enter-turn.ensures.pass)
    (g.met.V.Versioned.bytes_of_base c.enter-turn.result.1 c.args.self.now.first (c.enter-turn.ensures.base ∙ ap (λ s. g.V.Replayed.base s.first) c.self.view_is))
    (ap (λ p. p.seen) c.leave.ensures.pass)
    c.pin-answer.ensures.made c.pin-answer.ensures.pin
