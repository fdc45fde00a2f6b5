use Rattle.std.proofs.Common.{◌≡◌, ◌++◌, ◌∷◌, [], length, drop, List, rules, arith, sym, ap, ◌∙◌, length-append}
use Rattle.std.proofs.Math.Seq.{drop-append_seam}
use Rattle.turn_gate.specs.Steps.{view_of}
use Rattle.turn_gate.proofs.Counting.{count_allows}
use Rattle.turn_gate.proofs.Inside.{inside_of}
use Rattle.turn_gate.proofs.turns.count.Goals as goal

pub fetch_add-requires : goal.fetch_add-requires
fetch_add-requires g c =
    let seat = c.into_seat-seat.result in
    let v = view_of c.pass.inside.badge.views in
    let here : v ≡ seat.me.0 = ap (λ b. view_of b.views) (sym c.replace.ensures.value) ∙ ap view_of c.into_seat-seat.ensures.2 in
    let first = c.gate.inside.table.shared.key in
    let noted : List g.row.S-Entry.Denot = c.args.turn.now.noted in
    let in_turn = inside_of v.inside v.noted noted (ap (λ p. p.turn) c.pass.view_is ∙ c.requires.turn.noted) in
    let e = c.requires.entry.0 in
    let all : g.S.Replayed.entries c.args.value.now ≡ noted ++ e ∷ [] = c.requires.entry.1 in
    let more : g.M.More.more ≡ e ∷ [] = c.requires.picked ∙ ap (drop (length noted)) all ∙ drop-append_seam noted (e ∷ []) in
    let long : length seat.me.0.noted ≡ length noted = ap (λ u. length u.noted) (sym here) ∙ ap length in_turn.1 in (
      search rules,
      search rules,
      count_allows (g.S.Replayed.replays (g.S.Replayed.base first)) g.S.Replayed.maker (λ value log. (g.S.Replayed.entries value ≡ log) × (g.S.Replayed.base value ≡ g.S.Replayed.base first))
          c.gate.inside.table.shared.table_id.slots seat.id seat.me g.M.More.more e more
          (c.requires.entry.2 ∙ sym (ap (λ p. p.who) c.pass.view_is) ∙ ap (λ u. u.who) here)
          (omega (arith, long, c.requires.count, ap length all, length-append noted (e ∷ [])))
          (ap (λ u. u.live) (sym here) ∙ c.pass.invariant.1) (ap (λ u. u.inside) (sym here) ∙ in_turn.0),
    )
