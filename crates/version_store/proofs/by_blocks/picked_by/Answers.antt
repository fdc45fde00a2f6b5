use Rattle.std.proofs.Common.{◌≡◌, ℕ, ◌+◌, length, ap, sym, ◌∙◌, arith}
use Rattle.view_meaning.specs.Classes.{changed}
use Rattle.class_pages.specs.Choosing.{Pick}
use Rattle.class_pages.proofs.Versions.{changed_same, changed_most}
use Rattle.version_store.proofs.Blockwise.{block_at, blocks_none, blocks_more, made_is, underway_none}
use Rattle.version_store.proofs.by_blocks.picked_by.Goals as goal

pub loop-k-init : goal.loop-k-init
loop-k-init g c =
    let pick : Pick = g.T.Chooser.picks c.args.chooser.now in
    record {
      underway = underway_none c.args.survey.now pick c.args.classes.now c.in_ok-draft.draft c.in_ok-draft.ensures.classes;
      made = blocks_none c.args.survey.now pick c.args.classes.now c.args.blocks.now c.in_ok-draft.draft;
      count = changed_same c.args.classes.now c.in_ok-draft.draft c.in_ok-draft.ensures.classes;
    }

pub overflow_add-changed : goal.overflow_add-changed
overflow_add-changed g c =
    let block = block_at c.args.blocks.now.blocks c.loop-k.k (omega (arith, c.loop-k-test.true, c.count-k-end.ensures.count)) in
    let further = c.in_ok-changed.ensures c.args.classes.now block.0 block.1 c.loop-k.invariant.underway in
    let most = changed_most c.args.classes.now c.reclassify_block.new.draft in
    omega (arith, most, further.count, c.loop-k.invariant.count, c.in_ok-draft.ensures.few)

pub loop-k-preserved : goal.loop-k-preserved
loop-k-preserved g c =
    let pick : Pick = g.T.Chooser.picks c.args.chooser.now in
    let block = block_at c.args.blocks.now.blocks c.loop-k.k (omega (arith, c.loop-k-test.true, c.count-k-end.ensures.count)) in
    let further = c.in_ok-changed.ensures c.args.classes.now block.0 block.1 c.loop-k.invariant.underway in
    record {
      underway = further.underway;
      made = blocks_more c.args.survey.now pick c.args.classes.now c.args.blocks.now c.loop-k.k (c.loop-k.k + 1) c.loop-k.draft c.reclassify_block.new.draft block.0 (omega arith) block.1 further.kept further.made c.loop-k.invariant.made;
      count = ap (λ (n : ℕ). n + c.in_ok-changed.field-0) c.loop-k.invariant.count ∙ further.count;
    }

pub returns : goal.returns
returns g c =
    let pick : Pick = g.T.Chooser.picks c.args.chooser.now in
    let old = c.args.classes.now in
    let made = c.in_ok-into_classes.ensures in
    record {
      classes = made ∙ made_is c.args.survey.now pick old c.loop-k.draft c.args.blocks.now c.loop-k.k c.requires.blocks c.requires.records (omega (arith, c.loop-k-test.false, c.loop-k.auto.k-end, c.count-k-end.ensures.count))
          c.loop-k.invariant.underway c.loop-k.invariant.made;
      count = c.loop-k.invariant.count ∙ ap (changed old) (sym made);
      size = ap length made ∙ c.loop-k.invariant.underway.size ∙ c.requires.records;
    }
