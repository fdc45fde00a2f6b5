use Rattle.std.proofs.Common.{◌≡◌, ◌++◌, ◌∷◌, [], length, ◌∙◌, arith}
use Rattle.std.proofs.lemmas.Iterator.Adapters.{YieldsList-from_vec}
use Rattle.std.proofs.lemmas.Iterator.Consumers.{YieldsList-turn}
use Rattle.std.proofs.lemmas.List.{length_push}
use Rattle.std.specs.Arc.{arc_value}
use Rattle.class_pages.specs.Drafts.{classes_on}
use Rattle.class_pages.specs.Pages.{page_of}
use Rattle.class_pages.proofs.Pages.{built_more, page_is}
use Rattle.class_pages.proofs.draft.Draft.into_classes.Goals as goal

pub loop-page-preserved : goal.loop-page-preserved
loop-page-preserved c =
    let began = c.into_iter-page-iterator.ensures.into_iter_gives in
    let turn =
    YieldsList-turn (YieldsList-from_vec c.self.inside.pages.items began.0 (omega (arith, began.1, c.self.inside.pages.ok.0))) c.loop-page.yielded _ c.loop-page.yielded_by _ c.next.new.self c.in-Some.page c.in-Some.is c.next.ensures.steps in
    let is : arc_value c.in_ok-into_shared.field-0 ≡ page_of c.args.self (length c.loop-page.yielded) =
    c.in_ok-into_shared.ensures ∙ page_is classes_on c.args.self c.self.inside.records (length c.loop-page.yielded) c.self.inside.pages.items c.in-Some.page c.self.invariant c.self.view_is turn.0 turn.1 in
    rw c.in_ok-push.ensures.items
    (built_more arc_value c.args.self (length c.loop-page.yielded) (length (c.loop-page.yielded ++ c.in-Some.page ∷ [])) c.loop-page.pages.items c.in_ok-into_shared.field-0
    (omega (arith, length_push c.loop-page.yielded c.in-Some.page)) is c.loop-page.invariant)
