use Rattle.std.proofs.Common.{◌≡◌, ℕ, List, ◌+◌, ◌*◌, ◌<◌, length, take, rules, ap, sym, subst, ◌∙◌, arith, All}
use Rattle.std.proofs.lemmas.List.{length-take}
use Rattle.std.specs.Arc.{arc_value}
use Rattle.view_meaning.specs.Classes.{changed}
use Rattle.class_pages.specs.Choosing.{Pick, chosen}
use Rattle.class_pages.specs.Pages.{page_of, page_count}
use Rattle.class_pages.proofs.Pages.{built_nothing, built_more, built_is, built_all, page_is, page_most, page_within, IsBuilt}
use Rattle.class_pages.proofs.Versions.{length-chosen, page_chosen, changed_none, changed_more, changed_most, changed_all}
use Rattle.class_pages.proofs.classes.Classes.picked.Goals as goal

pub loop-k-init : goal.loop-k-init
loop-k-init g c =
    let new = chosen c.args.survey.now (g.T.Chooser.picks c.args.chooser.now) c.args.self.now in
    record { built = rw c.in_ok-pages.ensures.items (built_nothing arc_value new); count = changed_none c.args.self.now new }

pub page_after-requires-clause-within : goal.page_after-requires-clause-within
page_after-requires-clause-within g c =
    let within : c.loop-k.k < length c.self.inside.pages.items = search rules in
    let is : arc_value c.index.result.now ≡ page_of c.args.self.now c.loop-k.k = page_is arc_value c.args.self.now c.self.inside.records c.loop-k.k c.self.inside.pages.items c.index.result.now c.self.invariant c.self.view_is within c.index.ensures in
    let long : length c.args.self.now ≡ c.self.inside.records = ap length (sym c.self.view_is) ∙ c.self.invariant.long in
    let there = page_within arc_value c.args.self.now c.loop-k.k c.index.result.now is (omega (arith, within, c.self.invariant.count, long)) in
    omega (arith, there, c.requires.records)

pub page_after-requires-clause-few : goal.page_after-requires-clause-few
page_after-requires-clause-few g c =
    let within : c.loop-k.k < length c.self.inside.pages.items = search rules in
    let is : arc_value c.index.result.now ≡ page_of c.args.self.now c.loop-k.k = page_is arc_value c.args.self.now c.self.inside.records c.loop-k.k c.self.inside.pages.items c.index.result.now c.self.invariant c.self.view_is within c.index.ensures in
    let long : length c.args.self.now ≡ c.self.inside.records = ap length (sym c.self.view_is) ∙ c.self.invariant.long in
    let there = page_within arc_value c.args.self.now c.loop-k.k c.index.result.now is (omega (arith, within, c.self.invariant.count, long)) in
    omega (arith, there, long, c.self.invariant.few)

pub overflow_add-changed : goal.overflow_add-changed
overflow_add-changed g c =
    let new = chosen c.args.survey.now (g.T.Chooser.picks c.args.chooser.now) c.args.self.now in
    let within : c.loop-k.k < length c.self.inside.pages.items = search rules in
    let is : arc_value c.index.result.now ≡ page_of c.args.self.now c.loop-k.k = page_is arc_value c.args.self.now c.self.inside.records c.loop-k.k c.self.inside.pages.items c.index.result.now c.self.invariant c.self.view_is within c.index.ensures in
    let most = page_most arc_value c.args.self.now c.loop-k.k c.index.result.now is in
    let long : length c.args.self.now ≡ c.self.inside.records = ap length (sym c.self.view_is) ∙ c.self.invariant.long in
    let so_far = changed_most (take (c.loop-k.k * 4096) c.args.self.now) (take (c.loop-k.k * 4096) new) in
    let here = changed_most (arc_value c.index.result.now) (arc_value c.in_ok-page.page) in
    omega (arith, most, long, so_far, here, length-take (c.loop-k.k * 4096) c.args.self.now, c.self.invariant.few, c.loop-k.invariant.count, c.in_ok-page.ensures.count)

pub loop-k-preserved : goal.loop-k-preserved
loop-k-preserved g c =
    let pick : Pick = g.T.Chooser.picks c.args.chooser.now in
    let new = chosen c.args.survey.now pick c.args.self.now in
    let within : c.loop-k.k < length c.self.inside.pages.items = search rules in
    let is : arc_value c.index.result.now ≡ page_of c.args.self.now c.loop-k.k = page_is arc_value c.args.self.now c.self.inside.records c.loop-k.k c.self.inside.pages.items c.index.result.now c.self.invariant c.self.view_is within c.index.ensures in
    let made : arc_value c.in_ok-page.page ≡ page_of new c.loop-k.k = page_chosen c.args.survey.now pick c.args.self.now (arc_value c.index.result.now) (arc_value c.in_ok-page.page) c.loop-k.k is c.in_ok-page.ensures.after in
    record {
      built = rw c.in_ok-push.ensures.items (built_more arc_value new c.loop-k.k (c.loop-k.k + 1) c.loop-k.pages.items c.in_ok-page.page (omega arith) made c.loop-k.invariant.built);
      count = changed_more c.args.self.now new c.loop-k.k (c.loop-k.k + 1) c.loop-k.changed c.in_ok-page.count (arc_value c.index.result.now) (arc_value c.in_ok-page.page) (omega arith)
          (length-chosen c.args.survey.now pick c.args.self.now) is made c.loop-k.invariant.count c.in_ok-page.ensures.count;
    }

pub invariant_of-result : goal.invariant_of-result
invariant_of-result g c =
    let pick : Pick = g.T.Chooser.picks c.args.chooser.now in
    let long : length c.args.self.now ≡ c.self.inside.records = ap length (sym c.self.view_is) ∙ c.self.invariant.long in
    let last : c.loop-k.k ≡ length c.self.inside.pages.items = search rules in
    built_all arc_value (chosen c.args.survey.now pick c.args.self.now) c.loop-k.k c.self.inside.records c.loop-k.pages.items (last ∙ c.self.invariant.count)
    (length-chosen c.args.survey.now pick c.args.self.now ∙ long) c.self.invariant.few (c.requires.bytes (subst (All (λ class. class < 256)) c.self.view_is c.self.invariant.bytes)) c.loop-k.invariant.built

pub returns : goal.returns
returns g c =
    let pick : Pick = g.T.Chooser.picks c.args.chooser.now in
    let old = c.args.self.now in
    let new = chosen c.args.survey.now pick old in
    let size : length new ≡ length old = length-chosen c.args.survey.now pick old in
    let long : length old ≡ c.self.inside.records = ap length (sym c.self.view_is) ∙ c.self.invariant.long in
    let last : c.loop-k.k ≡ length c.self.inside.pages.items = search rules in
    let made = built_is arc_value new c.loop-k.k c.loop-k.pages.items (last ∙ c.self.invariant.count ∙ ap page_count (sym long ∙ sym size)) c.loop-k.invariant.built in
    record {
      classes = made;
      count = c.loop-k.invariant.count ∙ changed_all old new c.loop-k.k size (omega (arith, long, last, c.self.invariant.count)) ∙ ap (changed old) (sym made);
      size = ap length made ∙ size ∙ c.requires.records;
    }
