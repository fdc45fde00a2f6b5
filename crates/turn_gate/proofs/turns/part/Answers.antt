use Rattle.std.proofs.Common.{◌≡◌, ◌∷◌, [], rules, sym, ap, subst, ◌∙◌}
use Rattle.turn_gate.specs.Steps.{view_of, OfFirst}
use Rattle.turn_gate.proofs.Looking.{look_allows}
use Rattle.turn_gate.proofs.Parting.{part_splits}
use Rattle.turn_gate.proofs.turns.part.Goals as goal

pub split_seat-worker-requires : goal.split_seat-worker-requires
split_seat-worker-requires g c =
    let seat = c.into_seat-seat.result in
    let v = view_of c.root.inside.badge.views in
    let here : v ≡ seat.me.0 = ap (λ b. view_of b.views) (sym c.replace.ensures.value) ∙ ap view_of c.into_seat-seat.ensures.2 in
    let first = c.gate.inside.table.shared.key in (
      search rules,
      search rules,
      part_splits (g.S.Replayed.replays (g.S.Replayed.base first)) g.S.Replayed.maker (λ value log. (g.S.Replayed.entries value ≡ log) × (g.S.Replayed.base value ≡ g.S.Replayed.base first))
          seat.id seat.me.0 (ap (λ u. u.root) (sym here) ∙ ap (λ p. p.root) c.root.view_is ∙ c.requires.root) (ap (λ u. u.live) (sym here) ∙ c.root.invariant.1),
    )

pub load-requires : goal.load-requires
load-requires g c =
    let first = c.gate.inside.table.shared.key in
    let picked : g.N.Named.firsts ≡ first ∷ [] = c.requires.picked ∙ ap (λ m. m.first ∷ []) (sym c.gate.view_is) in
    let worker = c.split_seat-worker.result in (
      search rules,
      search rules,
      look_allows (g.S.Replayed.replays (g.S.Replayed.base first)) g.S.Replayed.maker (λ value log. (g.S.Replayed.entries value ≡ log) × (g.S.Replayed.base value ≡ g.S.Replayed.base first))
          (λ seen. OfFirst (λ f. g.S.Replayed.replays (g.S.Replayed.base f) seen) g.N.Named.firsts) c.gate.inside.table.shared.table_id.slots worker.id worker.me
          (λ log h. subst (OfFirst (λ f. g.S.Replayed.replays (g.S.Replayed.base f) log)) (sym picked) h)
          (ap (λ m. m.0.live) c.split_seat-worker.ensures.4),
    )
