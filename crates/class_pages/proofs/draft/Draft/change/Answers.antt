use Rattle.std.proofs.Common.{◌≡◌, ◌<◌, ◌%◌, ◌/◌, ℕ, List, length, set, sym, ◌∙◌, ap, subst, arith}
use Rattle.std.proofs.lemmas.Result.{IfOk-weaker, on_err_weaker}
use Rattle.std.specs.List.{flat_map}
use Rattle.class_pages.specs.Choosing.{IsPicked, Pick}
use Rattle.class_pages.specs.Drafts.{classes_on}
use Rattle.class_pages.proofs.Drafting.{picked_flat, place_there, set_paged_either, set_same}
use Rattle.class_pages.proofs.draft.Draft.change.Goals as goal

pub change-requires : goal.change-requires
change-requires g c =
    let long : length c.args.self.now ≡ c.self.inside.records = ap length (sym c.self.view_is) ∙ c.self.invariant.long in
    place_there classes_on c.self.inside.records c.args.i c.self.inside.pages.items c.index_mut.result.now c.self.invariant (omega (arith, long, c.requires)) c.index_mut.ensures.value

pub invariant_of-self : goal.invariant_of-self
invariant_of-self g c =
    let long : length c.args.self.now ≡ c.self.inside.records = ap length (sym c.self.view_is) ∙ c.self.invariant.long in
    set_paged_either classes_on c.self.inside.records c.args.i c.self.inside.pages.items c.index_mut.result.now c.change.new.self (g.T.Chooser.picks c.args.chooser.now) c.args.p c.change.result c.self.invariant
    (omega (arith, long, c.requires)) c.change.ensures.byte c.index_mut.ensures.value c.change.ensures.picked c.change.ensures.refused

pub returns-clause-picked : goal.returns-clause-picked
returns-clause-picked g c =
    let long : length c.args.self.now ≡ c.self.inside.records = ap length (sym c.self.view_is) ∙ c.self.invariant.long in
    let pick : Pick = g.T.Chooser.picks c.args.chooser.now in
    let page = c.index_mut.result.now in
    let after = flat_map classes_on (set c.self.inside.pages.items (c.args.i / 4096) c.change.new.self) in
    IfOk-weaker c.change.result
    (IsPicked pick c.args.p (c.args.i % 4096) (classes_on page) (classes_on c.change.new.self))
    (IsPicked pick c.args.p c.args.i c.args.self.now after)
    (λ changed picked. subst (λ (l : List ℕ). IsPicked pick c.args.p c.args.i l after changed) c.self.view_is
    (picked_flat classes_on c.self.inside.records c.args.i c.self.inside.pages.items page c.change.new.self pick c.args.p changed c.self.invariant (omega (arith, long, c.requires)) c.index_mut.ensures.value picked))
    c.change.ensures.picked

pub returns-clause-refused : goal.returns-clause-refused
returns-clause-refused g c =
    on_err_weaker c.change.result
    (λ stays. ap (flat_map classes_on) (set_same c.self.inside.pages.items (c.args.i / 4096) c.index_mut.result.now c.change.new.self c.index_mut.ensures.value stays) ∙ c.self.view_is)
    c.change.ensures.refused
