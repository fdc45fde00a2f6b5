use Rattle.std.proofs.Common.{◌≡◌, ◌+◌, ◌∙◌, length, ap, sym, arith, rules}
use Rattle.std.specs.Arc.{arc_value}
use Rattle.class_pages.specs.declared.draft.DraftPage.TheVariants.{Shared}
use Rattle.class_pages.specs.Drafts.{classes_on}
use Rattle.class_pages.specs.Pages.{page_of}
use Rattle.class_pages.proofs.Pages.{built_more, page_is}
use Rattle.class_pages.proofs.draft.Draft.of.Goals as goal

pub loop-k-preserved : goal.loop-k-preserved
loop-k-preserved c =
    let cs = c.args.version.now in
    let is : arc_value c.in_ok-try_clone.field-0 ≡ page_of cs c.loop-k.k =
    c.in_ok-try_clone.ensures ∙ page_is arc_value cs c.version.inside.records c.loop-k.k c.version.inside.pages.items c.index.result.now c.version.invariant c.version.view_is (search rules) c.index.ensures in
    rw c.in_ok-push.ensures.items (built_more classes_on cs c.loop-k.k (c.loop-k.k + 1) c.loop-k.pages.items (Shared c.in_ok-try_clone.field-0) (omega arith) is c.loop-k.invariant)
