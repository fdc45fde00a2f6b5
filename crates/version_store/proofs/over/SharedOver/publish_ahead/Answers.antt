use Rattle.std.proofs.Common.{ℕ, List, ap, sym, ◌∙◌, subst}
use Rattle.version_store.specs.declared.history.What.TheVariants.{Publish}
use Rattle.version_store.specs.Histories.{journal}
use Rattle.version_store.specs.Sharing.{IsAhead}
use Rattle.version_store.specs.Versioned.{entry_by}
use Rattle.version_store.proofs.SharedSteps.{IsAhead-later, answer_noted, history_begins}
use Rattle.version_store.proofs.over.SharedOver.publish_ahead.Goals as goal

pub publish_ahead-answer-requires-clause-ahead : goal.publish_ahead-answer-requires-clause-ahead
publish_ahead-answer-requires-clause-ahead g c newest_is =
    let history = g.V.Versioned.history in
    let seen = c.args.pass.now.seen in
    let found = g.V.Replayed.entries c.enter-turn.result.1 in
    let bytes = g.met.V.Versioned.bytes_of_base c.enter-turn.result.1 c.args.self.now.first (c.enter-turn.ensures.base ∙ ap (λ s. g.V.Replayed.base s.first) c.self.view_is) in
    subst (λ (b : List ℕ). IsAhead b (journal (history found)) c.args.edit.now c.args.ahead) (sym bytes)
    (IsAhead-later (g.V.Versioned.bytes c.args.self.now.first) (history seen) (history found) c.args.edit.now c.args.ahead
    (history_begins history g.met.V.Versioned.history_append seen found c.enter-turn.ensures.seen) c.requires.ahead newest_is)

pub note-requires-clause-entry : goal.note-requires-clause-entry
note-requires-clause-entry g c =
    let done = entry_by c.who.result (Publish c.args.edit.now) in
    answer_noted c.publish_ahead-answer.result g.V.Replayed.maker g.V.Versioned.history (λ made. g.V.Versioned.published c.who.result c.args.edit.now made.2) done
    (g.V.Replayed.entries c.enter-turn.result.1) (g.V.Replayed.entries c.publish_ahead-answer.new.self) c.enter-turn.result.0.noted c.enter-turn.new.pass.who
    (sym c.is_ok.ensures.value ∙ c.if-is_ok.true) c.publish_ahead-answer.ensures.made (ap (λ t. t.noted) c.enter-turn.ensures.turn) c.who.ensures
