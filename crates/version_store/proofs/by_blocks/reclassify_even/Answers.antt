use Rattle.std.proofs.Common.{◌≡◌, ◌<◌, ℕ, List, Some, length, sym, ◌∙◌, ap, subst, arith}
use Rattle.std.proofs.lemmas.Result.{IfOk-weaker}
use Rattle.std.specs.Prelude.{slice_get}
use Rattle.std.specs.List.{range_with_len}
use Rattle.grid_blocks.specs.declared.block.Block.{Block}
use Rattle.grid_blocks.specs.Blocks.{part}
use Rattle.class_pages.specs.Choosing.{Pick}
use Rattle.version_store.specs.Underway.{ArePickedAt, IsUnderway, IsFurther}
use Rattle.version_store.proofs.Blockwise.{all_part, further_part, part_numbered, same_block}
use Rattle.version_store.proofs.by_blocks.reclassify_even.Goals as goal

pub change_each-requires-clause-numbers : goal.change_each-requires-clause-numbers
change_each-requires-clause-numbers g c =
    let block = c.block-block.result.now in
    all_part (λ i. i < length c.args.draft.now) c.args.blocks.now.members c.in-Some.records.numbers.now block (c.in-Some.ensures.numbers block c.block-block.ensures.block) c.requires.members

pub returns-in-Some : goal.returns-in-Some
returns-in-Some g c =
    let pick : Pick = g.T.Chooser.picks c.args.chooser.now in
    let numbers = c.in-Some.records.numbers.now in
    IfOk-weaker c.change_each.result
    (λ changed. (b old : List ℕ) → ArePickedAt b pick c.args.p numbers → IsUnderway b pick old c.args.draft.now → IsFurther b pick old c.args.draft.now c.change_each.new.draft numbers changed)
    (λ changed. (b old : List ℕ) (block : Block) → slice_get c.args.blocks.now.blocks c.args.k ≡ Some block → ArePickedAt b pick c.args.p (part block c.args.blocks.now.members) → IsUnderway b pick old c.args.draft.now
    → IsFurther b pick old c.args.draft.now c.change_each.new.draft (part block c.args.blocks.now.members) changed)
    (λ changed further. λ b old block is alike under.
    let are : numbers ≡ part block c.args.blocks.now.members = c.in-Some.ensures.numbers block is in
    further_part b pick old c.args.draft.now c.change_each.new.draft numbers c.args.blocks.now block changed are
    (further b old (subst (ArePickedAt b pick c.args.p) (sym are) alike) under))
    c.change_each.ensures

pub change_run-requires-clause-within : goal.change_run-requires-clause-within
change_run-requires-clause-within g c = omega (arith, c.block-block.ensures.within, c.requires.records)

pub returns-in-None : goal.returns-in-None
returns-in-None g c =
    let pick : Pick = g.T.Chooser.picks c.args.chooser.now in
    let here = c.block-block.result.now in
    let numbers = range_with_len here.first here.count in
    IfOk-weaker c.change_run.result
    (λ changed. (b old : List ℕ) → ArePickedAt b pick c.args.p numbers → IsUnderway b pick old c.args.draft.now → IsFurther b pick old c.args.draft.now c.change_run.new.draft numbers changed)
    (λ changed. (b old : List ℕ) (block : Block) → slice_get c.args.blocks.now.blocks c.args.k ≡ Some block → ArePickedAt b pick c.args.p (part block c.args.blocks.now.members) → IsUnderway b pick old c.args.draft.now
    → IsFurther b pick old c.args.draft.now c.change_run.new.draft (part block c.args.blocks.now.members) changed)
    (λ changed further. λ b old block is alike under.
    let same : here ≡ block = same_block c.args.blocks.now.blocks c.args.k here block c.block-block.ensures.block is in
    let are : numbers ≡ part block c.args.blocks.now.members = part_numbered c.args.blocks.now.members here c.in-None.ensures.none c.block-block.ensures.within ∙ ap (λ (x : Block). part x c.args.blocks.now.members) same in
    further_part b pick old c.args.draft.now c.change_run.new.draft numbers c.args.blocks.now block changed are
    (further b old (subst (ArePickedAt b pick c.args.p) (sym are) alike) under))
    c.change_run.ensures
