use Rattle.std.proofs.Common.{◌≡◌, ℕ, ◌+◌, ◌<◌, ◌≤◌, List, All, Contains, length, take, arith, ap, subst, ◌∙◌}
use Rattle.std.proofs.lemmas.List.{get_or-take, length-take-le}
use Rattle.std.specs.Slots.{slots_items}
use Rattle.min_frame.specs.Least.{least}
use Rattle.min_frame.specs.Claimed.{times}
use Rattle.min_frame.proofs.Closing.{IsLast, final_last, last_once, last_below, last_all}
use Rattle.min_frame.proofs.frame.Frame.close.Goals as goal

pub returns : goal.returns
returns c =
    let v = c.root.inside.inner.me.0 in
    let size = c.self.inside.table.shared.key in
    let words : List ℕ = slots_items c.close_with.result.words in
    let plots : v.plots ≡ c.args.root.plots = ap (λ m. m.plots) c.root.view_is in
    let claims : v.claims ≡ c.args.root.claims = ap (λ m. m.claims) c.root.view_is in
    let ends : v.ends ≡ c.args.root.ends = ap (λ m. m.ends) c.root.view_is in
    let root : v.root ≡ c.args.root.root = ap (λ m. m.root) c.root.view_is in
    let out : v.out ≡ c.args.root.out = ap (λ m. m.out) c.root.view_is in
    let pixels : c.self.inside.pixels ≡ c.args.self.pixels = ap (λ m. m.pixels) c.self.view_is in
    let blocks : c.self.inside.blocks ≡ c.args.self.blocks = ap (λ m. m.blocks) c.self.view_is in
    let all : size.ends ≡ c.args.self.ends = ap (λ m. m.ends) c.self.view_is in
    let last : IsLast size words v =
    final_last size c.root.inside.inner.id v words (slots_items c.close_with.result.slots) (root ∙ c.requires.root) c.root.invariant.0 (out ∙ c.requires.out) c.close_with.ensures.values.2 in
    let long : length words ≡ size.pixels + 1 = last.places in
    let count : length (take c.self.inside.pixels words) ≡ c.self.inside.pixels = length-take-le c.self.inside.pixels words (omega (arith, long, c.self.invariant)) in
    record {
      pixels = count ∙ pixels;
      least = λ x inside. get_or-take c.self.inside.pixels words x 0 (omega (arith, inside, count)) ∙ last.pixels x (omega (arith, inside, count)) ∙ ap (λ l. least l x) plots;
      once = subst (λ l. (n : ℕ) → times n l ≤ 1) claims (last_once size words v last);
      below = subst (λ l. All (λ n. n < c.args.self.blocks) l) claims (subst (λ b. All (λ n. n < b) v.claims) (c.self.invariant.3 ∙ blocks) (last_below size words v last));
      all = λ used n low. subst (λ l. Contains l n) claims (last_all size words v last (omega arith) n (omega arith));
    }
