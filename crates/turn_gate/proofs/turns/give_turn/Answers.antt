use Rattle.std.proofs.Common.{◌≡◌, List, Option, rules, arith, sym, ap, subst, ◌∙◌}
use mathlib.Core.Option.{none}
use Rattle.atomic_table.specs.Table.{Me, Allows, step, rest}
use Rattle.turn_gate.specs.declared.view.View.{View}
use Rattle.turn_gate.specs.Rule.{IsKeptSome}
use Rattle.turn_gate.specs.Steps.{view_of, Settles}
use Rattle.turn_gate.proofs.Inside.{inside_of}
use Rattle.turn_gate.proofs.Lending.{fetch_allows}
use Rattle.turn_gate.proofs.Settling.{settle_allows}
use Rattle.turn_gate.proofs.turns.give_turn.Goals as goal

pub load-requires : goal.load-requires
load-requires g c =
    let seat = c.into_seat-seat.result in
    let v = view_of c.pass.inside.badge.views in
    let here : v ≡ seat.me.0 = ap (λ b. view_of b.views) (sym c.replace.ensures.value) ∙ ap view_of c.into_seat-seat.ensures.2 in
    let first = c.gate.inside.table.shared.key in
    let in_turn = inside_of v.inside v.noted (g.S.Replayed.entries c.args.value) (ap (λ p. p.turn) c.pass.view_is ∙ c.requires.turn) in (
      search rules,
      search rules,
      fetch_allows (g.S.Replayed.replays (g.S.Replayed.base first)) g.S.Replayed.maker (λ value log. (g.S.Replayed.entries value ≡ log) × (g.S.Replayed.base value ≡ g.S.Replayed.base first))
          c.gate.inside.table.shared.table_id.slots seat.id seat.me
          (ap (λ u. u.live) (sym here) ∙ c.pass.invariant.1) (ap (λ u. u.inside) (sym here) ∙ in_turn.0) (ap (λ u. u.away) (sym here) ∙ c.pass.invariant.2 ∙ in_turn.0),
    )

pub swap-requires : goal.swap-requires
swap-requires g c =
    let seat = c.into_seat-seat.result in
    let v = view_of c.pass.inside.badge.views in
    let here : v ≡ seat.me.0 = ap (λ b. view_of b.views) (sym c.replace.ensures.value) ∙ ap view_of c.into_seat-seat.ensures.2 in
    let first = c.gate.inside.table.shared.key in
    let key : first ≡ c.args.gate.now.first = ap (λ m. m.first) c.gate.view_is in
    let slots = c.gate.inside.table.shared.table_id.slots in
    let entries : List g.row.S-Entry.Denot = g.S.Replayed.entries c.args.value in
    let in_turn = inside_of v.inside v.noted entries (ap (λ p. p.turn) c.pass.view_is ∙ c.requires.turn) in
    let back = c.load.ensures.2.0 in
    let after = c.load.new.seat.me in
    let noted : after.0.noted ≡ entries = ap (λ u. u.noted) back ∙ ap (λ u. u.noted) (sym here) ∙ in_turn.1 in
    let legal : g.S.Replayed.replays (g.S.Replayed.base first) entries = subst (λ f. g.S.Replayed.replays (g.S.Replayed.base f) entries) (sym key) c.requires.legal in
    let P : Me (Option g.row.S.Denot) (View g.row.S-Entry.Denot) → Type 0 =
    λ me. Allows (λ s. IsKeptSome (g.S.Replayed.replays (g.S.Replayed.base first)) g.S.Replayed.maker (λ value log. (g.S.Replayed.entries value ≡ log) × (g.S.Replayed.base value ≡ g.S.Replayed.base first)) s.words s.homes s.views)
    slots c.exchange.new.seat.id me 0 (λ n. 0) (Settles g.S.Replayed.maker (step slots 0 0 0 none) me) in (
      search rules,
      search rules,
      subst P (sym {A = Me (Option g.row.S.Denot) (View g.row.S-Entry.Denot)} c.exchange.ensures.3)
          (settle_allows (g.S.Replayed.replays (g.S.Replayed.base first)) g.S.Replayed.maker (λ value log. (g.S.Replayed.entries value ≡ log) × (g.S.Replayed.base value ≡ g.S.Replayed.base first))
          slots c.exchange.new.seat.id after.0 c.args.value (rest after.1) (omega (arith, c.gate.invariant.1))
          (ap (λ u. u.live) back ∙ ap (λ u. u.live) (sym here) ∙ c.pass.invariant.1) (ap (λ u. u.inside) back ∙ ap (λ u. u.inside) (sym here) ∙ in_turn.0) (ap (λ u. u.away) back)
          (sym noted, c.requires.base ∙ ap (λ f. g.S.Replayed.base f) (sym key))
          (subst (g.S.Replayed.replays (g.S.Replayed.base first)) (sym noted) legal)),
    )
