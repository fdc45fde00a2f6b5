use Rattle.std.proofs.Common.{◌≡◌, rules, arith, ap, ◌∙◌}
use Rattle.min_frame.proofs.Splitting.{split_splits}
use Rattle.min_frame.proofs.frame.split_by.Goals as goal

pub split_seat-requires : goal.split_seat-requires
split_seat-requires g c =
    let ends : c.root.inside.inner.me.0.ends ≡ c.args.root.now.ends = ap (λ m. m.ends) c.root.view_is in
    let root : c.root.inside.inner.me.0.root ≡ c.args.root.now.root = ap (λ m. m.root) c.root.view_is in (
      search rules,
      omega arith,
      split_splits c.frame.inside.table.shared.key c.root.inside.inner.id g.E.Given.number c.root.inside.inner.me.0
          (omega (arith, c.requires.picked)) (root ∙ c.requires.root) c.root.invariant.0,
    )
