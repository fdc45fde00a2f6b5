use Rattle.std.proofs.Common.{◌≡◌, ◌∷◌, [], false, Option, Some, rules, arith, sym, ap, subst, ◌∙◌}
use mathlib.Core.List.{IsPrefix}
use mathlib.Core.Option.{none}
use Rattle.atomic_table.specs.Table.{Me, Allows, step, rest}
use Rattle.turn_gate.specs.declared.view.View.{View}
use Rattle.turn_gate.specs.Rule.{IsKeptSome}
use Rattle.turn_gate.specs.Steps.{view_of, OfFirst, Empties}
use Rattle.turn_gate.proofs.Entering.{enter_allows}
use Rattle.turn_gate.proofs.Inside.{outside_of}
use Rattle.turn_gate.proofs.Lending.{empty_allows, same_slot}
use Rattle.turn_gate.proofs.turns.take_turn.Goals as goal

pub compare_exchange-requires : goal.compare_exchange-requires
compare_exchange-requires g c =
    let seat = c.into_seat-seat.result in
    let v = view_of c.pass.inside.badge.views in
    let here : v ≡ seat.me.0 = ap (λ b. view_of b.views) (sym c.replace.ensures.value) ∙ ap view_of c.into_seat-seat.ensures.2 in
    let first = c.gate.inside.table.shared.key in
    let picked : g.N.Named.firsts ≡ first ∷ [] = c.requires.picked ∙ ap (λ m. m.first ∷ []) (sym c.gate.view_is) in
    let outside : v.inside ≡ false = outside_of v.inside v.noted (ap (λ p. p.turn) c.pass.view_is ∙ c.requires.outside) in (
      search rules,
      search rules,
      enter_allows (g.S.Replayed.replays (g.S.Replayed.base first)) g.S.Replayed.maker (λ value log. (g.S.Replayed.entries value ≡ log) × (g.S.Replayed.base value ≡ g.S.Replayed.base first))
          g.S.Replayed.entries (λ value. OfFirst (λ f. g.S.Replayed.base value ≡ g.S.Replayed.base f) g.N.Named.firsts)
          (λ seen. OfFirst (λ f. g.S.Replayed.replays (g.S.Replayed.base f) seen) g.N.Named.firsts) c.gate.inside.table.shared.table_id.slots seat.id seat.me
          (λ value log h. (h.0, subst (OfFirst (λ f. g.S.Replayed.base value ≡ g.S.Replayed.base f)) (sym picked) h.1))
          (λ log h. subst (OfFirst (λ f. g.S.Replayed.replays (g.S.Replayed.base f) log)) (sym picked) h)
          (ap (λ u. u.live) (sym here) ∙ c.pass.invariant.1) (ap (λ u. u.inside) (sym here) ∙ outside),
    )

pub exchange-value-requires : goal.exchange-value-requires
exchange-value-requires g c =
    let won = c.compare_exchange.ensures.2.won c.if-compare_exchange-ne0.false in
    (search rules, (Some won.0, won.2 ∙ ap (λ l. (0, Some won.0) ∷ l) (sym (ap rest won.2))))

pub load-requires : goal.load-requires
load-requires g c =
    let seat = c.into_seat-seat.result in
    let v = view_of c.pass.inside.badge.views in
    let here : v ≡ seat.me.0 = ap (λ b. view_of b.views) (sym c.replace.ensures.value) ∙ ap view_of c.into_seat-seat.ensures.2 in
    let first = c.gate.inside.table.shared.key in
    let slots = c.gate.inside.table.shared.table_id.slots in
    let won = c.compare_exchange.ensures.2.won c.if-compare_exchange-ne0.false in
    let after = c.compare_exchange.new.seat.me in
    let P : Me (Option g.row.S.Denot) (View g.row.S-Entry.Denot) → Type 0 =
    λ me. Allows (λ s. IsKeptSome (g.S.Replayed.replays (g.S.Replayed.base first)) g.S.Replayed.maker (λ value log. (g.S.Replayed.entries value ≡ log) × (g.S.Replayed.base value ≡ g.S.Replayed.base first)) s.words s.homes s.views)
    slots c.exchange-value.new.seat.id me 0 (λ n. n) (Empties (step slots 0 0 0 none) me) in (
      search rules,
      search rules,
      subst P (sym {A = Me (Option g.row.S.Denot) (View g.row.S-Entry.Denot)} c.exchange-value.ensures.3)
          (empty_allows (g.S.Replayed.replays (g.S.Replayed.base first)) g.S.Replayed.maker (λ value log. (g.S.Replayed.entries value ≡ log) × (g.S.Replayed.base value ≡ g.S.Replayed.base first))
          slots c.exchange-value.new.seat.id after.0 (rest after.1) (omega (arith, c.gate.invariant.1))
          (ap (λ u. u.live) won.1 ∙ ap (λ u. u.live) (sym here) ∙ c.pass.invariant.1) (ap (λ u. u.inside) won.1)),
    )

pub returns-clause-seen : goal.returns-clause-seen
returns-clause-seen g c =
    let seat = c.into_seat-seat.result in
    let v = view_of c.pass.inside.badge.views in
    let here : v ≡ seat.me.0 = ap (λ b. view_of b.views) (sym c.replace.ensures.value) ∙ ap view_of c.into_seat-seat.ensures.2 in
    let won = c.compare_exchange.ensures.2.won c.if-compare_exchange-ne0.false in
    let value : c.in-Some.value ≡ won.0 = same_slot 0 won.0 c.in-Some.value c.exchange-value.result seat.me.1 (rest c.compare_exchange.new.seat.me.1) c.compare_exchange.new.seat.me.1 won.2 c.exchange-value.ensures.2 c.in-Some.is in
    let seen : seat.me.0.seen ≡ c.args.pass.now.seen = ap (λ u. u.seen) (sym here) ∙ ap (λ p. p.seen) c.pass.view_is in
    subst (λ l. IsPrefix l (g.S.Replayed.entries c.in-Some.value)) seen (subst (λ x. IsPrefix seat.me.0.seen (g.S.Replayed.entries x)) (sym value) won.3)
