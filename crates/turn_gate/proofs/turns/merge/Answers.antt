use Rattle.std.proofs.Common.{◌≡◌, ◌∷◌, [], rules, sym, ap, subst, ◌∙◌}
use Rattle.turn_gate.specs.Steps.{view_of, OfFirst}
use Rattle.turn_gate.proofs.Inside.{outside_of}
use Rattle.turn_gate.proofs.Looking.{look_allows}
use Rattle.turn_gate.proofs.Merging.{merge_joins}
use Rattle.turn_gate.proofs.turns.merge.Goals as goal

pub join_seat-requires : goal.join_seat-requires
join_seat-requires g c =
    let seat = c.into_seat-seat.result in
    let v = view_of c.root.inside.badge.views in
    let here : v ≡ seat.me.0 = ap (λ b. view_of b.views) (sym c.replace.ensures.value) ∙ ap view_of c.into_seat-seat.ensures.2 in
    let other = c.into_seat.result in
    let w = view_of c.pass.inside.badge.views in
    let there : w ≡ other.me.0 = ap view_of c.into_seat.ensures.2 in
    let first = c.gate.inside.table.shared.key in (
      search rules,
      search rules,
      search rules,
      search rules,
      merge_joins (g.S.Replayed.replays (g.S.Replayed.base first)) g.S.Replayed.maker (λ value log. (g.S.Replayed.entries value ≡ log) × (g.S.Replayed.base value ≡ g.S.Replayed.base first))
          seat.id other.id seat.me.0 other.me.0
          (ap (λ u. u.root) (sym here) ∙ ap (λ p. p.root) c.root.view_is ∙ c.requires.root.0) (ap (λ u. u.live) (sym here) ∙ c.root.invariant.1)
          (ap (λ u. u.inside) (sym here) ∙ outside_of v.inside v.noted (ap (λ p. p.turn) c.root.view_is ∙ c.requires.outside.0))
          (ap (λ u. u.root) (sym there) ∙ ap (λ p. p.root) c.pass.view_is ∙ c.requires.root.1) (ap (λ u. u.live) (sym there) ∙ c.pass.invariant.1)
          (ap (λ u. u.inside) (sym there) ∙ outside_of w.inside w.noted (ap (λ p. p.turn) c.pass.view_is ∙ c.requires.outside.1)),
    )

pub load-requires : goal.load-requires
load-requires g c =
    let seat = c.into_seat-seat.result in
    let v = view_of c.root.inside.badge.views in
    let here : v ≡ seat.me.0 = ap (λ b. view_of b.views) (sym c.replace.ensures.value) ∙ ap view_of c.into_seat-seat.ensures.2 in
    let first = c.gate.inside.table.shared.key in
    let picked : g.N.Named.firsts ≡ first ∷ [] = c.requires.picked ∙ ap (λ m. m.first ∷ []) (sym c.gate.view_is) in
    let joined = c.join_seat.new.seat in (
      search rules,
      search rules,
      look_allows (g.S.Replayed.replays (g.S.Replayed.base first)) g.S.Replayed.maker (λ value log. (g.S.Replayed.entries value ≡ log) × (g.S.Replayed.base value ≡ g.S.Replayed.base first))
          (λ seen. OfFirst (λ f. g.S.Replayed.replays (g.S.Replayed.base f) seen) g.N.Named.firsts) c.gate.inside.table.shared.table_id.slots joined.id joined.me
          (λ log h. subst (OfFirst (λ f. g.S.Replayed.replays (g.S.Replayed.base f) log)) (sym picked) h)
          (ap (λ m. m.0.live) c.join_seat.ensures.2 ∙ ap (λ u. u.live) (sym here) ∙ c.root.invariant.1),
    )
