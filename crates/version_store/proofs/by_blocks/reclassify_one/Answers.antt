use Rattle.std.proofs.Common.{get_or, sym, ◌∙◌}
use Rattle.class_pages.proofs.Areas.{alone}
use Rattle.class_pages.proofs.Drafting.{picked_same}
use Rattle.version_store.proofs.by_blocks.reclassify_one.Goals as goal

pub returns-then-not-may_change : goal.returns-then-not-may_change
returns-then-not-may_change g c =
    picked_same (g.T.Chooser.picks c.args.chooser.now) c.args.p c.args.i c.args.draft.now
    (c.may_change.ensures c.if-not-may_change.true c.args.p (get_or c.args.draft.now c.args.i 0) (alone c.args.p))
