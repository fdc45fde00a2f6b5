use Rattle.std.proofs.Common.{◌≡◌, ◌<◌, ℕ, List, Some, get_or, sym, ◌∙◌, ap, subst, arith}
use Rattle.std.proofs.lemmas.Result.{IfOk-weaker}
use Rattle.std.specs.Prelude.{slice_get}
use Rattle.std.specs.List.{range_with_len}
use Rattle.view_meaning.specs.Survey.{record_count}
use Rattle.grid_blocks.specs.declared.block.Block.{Block}
use Rattle.grid_blocks.specs.Blocks.{part}
use Rattle.grid_blocks.proofs.Once.{length-once}
use Rattle.class_pages.specs.Choosing.{IsEven, Leaves, Pick}
use Rattle.version_store.specs.Underway.{ArePickedAt, IsUnderway, IsFurther}
use Rattle.version_store.proofs.Blockwise.{further_left, further_part, all_below, members_below, members_alike, part_numbered, same_block}
use Rattle.version_store.proofs.by_blocks.reclassify_block.Goals as goal

pub returns-then-not-may_change : goal.returns-then-not-may_change
returns-then-not-may_change g c = λ old block is under.
    let pick : Pick = g.T.Chooser.picks c.args.chooser.now in
    let same : c.block-block.result.now ≡ block = same_block c.args.blocks.now.blocks c.args.k c.block-block.result.now block c.block-block.ensures.block is in
    further_left c.args.survey.now pick old c.args.draft.now c.args.blocks.now c.args.k block c.requires.blocks c.requires.records is
    (subst (λ (x : Block). Leaves pick x.area) same (c.may_change.ensures c.if-not-may_change.true)) under

pub reclassify_even-requires-clause-members : goal.reclassify_even-requires-clause-members
reclassify_even-requires-clause-members g c = λ j d lt.
    let below : get_or c.args.blocks.now.members j d < record_count c.args.survey.now = all_below c.args.survey.now c.args.blocks.now c.requires.blocks j d lt in
    omega (arith, below, c.requires.records)

pub reclassify_even-requires-clause-records : goal.reclassify_even-requires-clause-records
reclassify_even-requires-clause-records g c = c.requires.records ∙ sym (length-once (record_count c.args.survey.now) c.args.blocks.now.members c.requires.blocks.members)

pub returns-then-is_even : goal.returns-then-is_even
returns-then-is_even g c =
    let pick : Pick = g.T.Chooser.picks c.args.chooser.now in
    let here = c.block-block.result.now in
    IfOk-weaker c.reclassify_even.result
    (λ changed. (b old : List ℕ) (block : Block) → slice_get c.args.blocks.now.blocks c.args.k ≡ Some block → ArePickedAt b pick here.area.min (part block c.args.blocks.now.members) → IsUnderway b pick old c.args.draft.now
    → IsFurther b pick old c.args.draft.now c.reclassify_even.new.draft (part block c.args.blocks.now.members) changed)
    (λ changed. (old : List ℕ) (block : Block) → slice_get c.args.blocks.now.blocks c.args.k ≡ Some block → IsUnderway c.args.survey.now pick old c.args.draft.now
    → IsFurther c.args.survey.now pick old c.args.draft.now c.reclassify_even.new.draft (part block c.args.blocks.now.members) changed)
    (λ changed further. λ old block is under.
    let same : here ≡ block = same_block c.args.blocks.now.blocks c.args.k here block c.block-block.ensures.block is in
    further c.args.survey.now old block is
    (subst (λ (x : Block). ArePickedAt c.args.survey.now pick here.area.min (part x c.args.blocks.now.members)) same
    (members_alike c.args.survey.now c.args.blocks.now c.args.k here pick c.requires.blocks c.block-block.ensures.block (c.is_even.ensures c.if-is_even.true))) under)
    c.reclassify_even.ensures

pub reclassify_each-requires-clause-numbers : goal.reclassify_each-requires-clause-numbers
reclassify_each-requires-clause-numbers g c = λ j d lt.
    let block = c.block-block.result.now in
    let below : get_or c.in-Some.records.numbers.now j d < record_count c.args.survey.now =
    members_below c.args.survey.now c.args.blocks.now block c.in-Some.records.numbers.now c.requires.blocks (c.in-Some.ensures.numbers block c.block-block.ensures.block) j d lt in
    omega (arith, below, c.requires.records)

pub reclassify_run-requires-clause-within : goal.reclassify_run-requires-clause-within
reclassify_run-requires-clause-within g c =
    omega (arith, c.block-block.ensures.within, length-once (record_count c.args.survey.now) c.args.blocks.now.members c.requires.blocks.members)

pub returns-in-None : goal.returns-in-None
returns-in-None g c =
    let pick : Pick = g.T.Chooser.picks c.args.chooser.now in
    let here = c.block-block.result.now in
    IfOk-weaker c.reclassify_run.result
    (λ changed. (old : List ℕ) → IsUnderway c.args.survey.now pick old c.args.draft.now → IsFurther c.args.survey.now pick old c.args.draft.now c.reclassify_run.new.draft (range_with_len here.first here.count) changed)
    (λ changed. (old : List ℕ) (block : Block) → slice_get c.args.blocks.now.blocks c.args.k ≡ Some block → IsUnderway c.args.survey.now pick old c.args.draft.now
    → IsFurther c.args.survey.now pick old c.args.draft.now c.reclassify_run.new.draft (part block c.args.blocks.now.members) changed)
    (λ changed further. λ old block is under.
    let same : here ≡ block = same_block c.args.blocks.now.blocks c.args.k here block c.block-block.ensures.block is in
    further_part c.args.survey.now pick old c.args.draft.now c.reclassify_run.new.draft (range_with_len here.first here.count) c.args.blocks.now block changed
    (part_numbered c.args.blocks.now.members here c.in-None.ensures.none c.block-block.ensures.within ∙ ap (λ (x : Block). part x c.args.blocks.now.members) same) (further old under))
    c.reclassify_run.ensures
