use Rattle.std.proofs.Common.{◌≡◌, rules, arith, sym, ap, ◌∙◌}
use Rattle.min_frame.proofs.Claiming.{claim_allows}
use Rattle.min_frame.proofs.frame.claim_of.Goals as goal

pub fetch_add-found-requires : goal.fetch_add-found-requires
fetch_add-found-requires g c =
    let blocks : c.frame.inside.blocks ≡ c.args.frame.now.blocks = ap (λ m. m.blocks) c.frame.view_is in
    let ends : c.seat.inside.inner.me.0.ends ≡ c.args.seat.now.ends = ap (λ m. m.ends) c.seat.view_is in (
      search rules,
      omega arith,
      claim_allows c.frame.inside.table.shared.key c.frame.inside.table.shared.table_id.slots c.seat.inside.inner.id c.frame.inside.pixels g.B.Given.number c.seat.inside.inner.me
          (omega (arith, c.requires.ends)) c.seat.invariant.0 c.frame.invariant.2 (c.frame.invariant.3 ∙ blocks ∙ sym c.requires.picked),
    )
