use Rattle.std.proofs.Common.{◌≡◌, rules, arith, ap, ◌∙◌}
use Rattle.min_frame.proofs.Joining.{join_joins}
use Rattle.min_frame.proofs.frame.Frame.join.Goals as goal

pub join_seat-requires : goal.join_seat-requires
join_seat-requires c =
    let root : c.root.inside.inner.me.0.root ≡ c.args.root.now.root = ap (λ m. m.root) c.root.view_is in
    let worker : c.worker.inside.inner.me.0.root ≡ c.args.worker.root = ap (λ m. m.root) c.worker.view_is in (
      search rules,
      search rules,
      c.worker.invariant.1,
      omega arith,
      join_joins c.self.inside.table.shared.key c.root.inside.inner.id c.worker.inside.inner.id c.root.inside.inner.me.0 c.worker.inside.inner.me.0
          (root ∙ c.requires.root) c.root.invariant.0 (worker ∙ c.requires.worker) c.worker.invariant.0,
    )
