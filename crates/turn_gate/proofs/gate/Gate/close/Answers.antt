use Rattle.std.proofs.Common.{◌≡◌, ◌⊎◌, map, All, Contains, Option, List, sym, ap, subst, ◌∙◌}
use Rattle.std.specs.Slots.{slots_items}
use Rattle.turn_gate.specs.Meaning.{made_by}
use Rattle.turn_gate.specs.Steps.{view_of}
use Rattle.turn_gate.proofs.Closing.{closed_is, same_home, no_home}
use Rattle.turn_gate.proofs.Inside.{outside_of}
use Rattle.turn_gate.proofs.gate.Gate.close.Goals as goal

pub unreachable-requires : goal.unreachable-requires
unreachable-requires g c =
    let first = c.self.inside.table.shared.key in
    let m = c.into_seat.result.me.0 in
    let v = view_of c.root.inside.badge.views in
    let there : v ≡ m = ap view_of c.into_seat.ensures.2 in
    let slots : List (Option g.row.S.Denot) = slots_items c.close_with-closed.result.slots in
    let closed = closed_is (g.S.Replayed.replays (g.S.Replayed.base first)) g.S.Replayed.maker (λ value log. (g.S.Replayed.entries value ≡ log) × (g.S.Replayed.base value ≡ g.S.Replayed.base first))
    c.into_seat.result.id m (slots_items c.close_with-closed.result.words) slots
    (ap (λ u. u.root) (sym there) ∙ ap (λ p. p.root) c.root.view_is ∙ c.requires.root) (ap (λ u. u.live) (sym there) ∙ c.root.invariant.1)
    (ap (λ u. u.out) (sym there) ∙ ap (λ p. p.out) c.root.view_is ∙ c.requires.out)
    (ap (λ u. u.inside) (sym there) ∙ outside_of v.inside v.noted (ap (λ p. p.turn) c.root.view_is ∙ c.requires.outside))
    c.close_with-closed.ensures.values.2 in
    no_home slots closed.value c.take-value.result closed.home c.take-value.ensures.value c.in-None.is

pub returns : goal.returns
returns g c =
    let first = c.self.inside.table.shared.key in
    let key : first ≡ c.args.self.first = ap (λ p. p.first) c.self.view_is in
    let m = c.into_seat.result.me.0 in
    let v = view_of c.root.inside.badge.views in
    let there : v ≡ m = ap view_of c.into_seat.ensures.2 in
    let slots : List (Option g.row.S.Denot) = slots_items c.close_with-closed.result.slots in
    let closed = closed_is (g.S.Replayed.replays (g.S.Replayed.base first)) g.S.Replayed.maker (λ value log. (g.S.Replayed.entries value ≡ log) × (g.S.Replayed.base value ≡ g.S.Replayed.base first))
    c.into_seat.result.id m (slots_items c.close_with-closed.result.words) slots
    (ap (λ u. u.root) (sym there) ∙ ap (λ p. p.root) c.root.view_is ∙ c.requires.root) (ap (λ u. u.live) (sym there) ∙ c.root.invariant.1)
    (ap (λ u. u.out) (sym there) ∙ ap (λ p. p.out) c.root.view_is ∙ c.requires.out)
    (ap (λ u. u.inside) (sym there) ∙ outside_of v.inside v.noted (ap (λ p. p.turn) c.root.view_is ∙ c.requires.outside))
    c.close_with-closed.ensures.values.2 in
    let same : c.in-Some.value ≡ closed.value = same_home slots closed.value c.in-Some.value c.take-value.result closed.home c.take-value.ensures.value c.in-Some.is in
    let seen : m.seen ≡ c.args.root.seen = ap (λ u. u.seen) (sym there) ∙ ap (λ p. p.seen) c.root.view_is in
    let mine : m.mine ≡ c.args.root.mine = ap (λ u. u.mine) (sym there) ∙ ap (λ p. p.mine) c.root.view_is in
    let kept : m.kept ≡ c.args.root.kept = ap (λ u. u.kept) (sym there) ∙ ap (λ p. p.kept) c.root.view_is in
    let who : m.who ≡ c.args.root.who = ap (λ u. u.who) (sym there) ∙ ap (λ p. p.who) c.root.view_is in
    record {
      base = ap g.S.Replayed.base same ∙ closed.stands.1 ∙ ap g.S.Replayed.base key;
      entries = ap g.S.Replayed.entries same ∙ closed.stands.0 ∙ seen;
      settled = record {
        legal = subst (λ f. g.S.Replayed.replays (g.S.Replayed.base f) c.args.root.seen) key (subst (g.S.Replayed.replays (g.S.Replayed.base first)) seen closed.legal);
        own = ap (made_by g.S.Replayed.maker c.args.root.who) (sym seen) ∙ ap (λ n. made_by g.S.Replayed.maker n m.seen) (sym who) ∙ closed.own ∙ mine;
      };
      makers = subst (λ ks. All (λ e. (g.S.Replayed.maker e ≡ 0) ⊎ Contains (map (λ k. k.0) ks) (g.S.Replayed.maker e)) c.args.root.seen) kept
          (subst (All (λ e. (g.S.Replayed.maker e ≡ 0) ⊎ Contains (map (λ k. k.0) m.kept) (g.S.Replayed.maker e))) seen closed.makers);
      kept = subst (λ ks. All (λ k. made_by g.S.Replayed.maker k.0 c.args.root.seen ≡ k.1) ks) kept (subst (λ l. All (λ k. made_by g.S.Replayed.maker k.0 l ≡ k.1) m.kept) seen closed.kept);
    }
