use Rattle.std.proofs.Common.{◌∙◌, ap, arith}
use Rattle.grid_blocks.proofs.Once.{length-once}
use Rattle.view_meaning.specs.Survey.{record_count}
use Rattle.splat_workers.specs.Waiting.{drawn, plotting}
use Rattle.splat_workers.proofs.Blocks.{block_at, block_pairs-part, part_below, part-numbered}
use Rattle.splat_workers.proofs.block.draw_block.Goals as goal

pub draw_copied-requires-clause-numbers : goal.draw_copied-requires-clause-numbers
draw_copied-requires-clause-numbers c =
    let block = block_at c.args.plan.now.blocks.now.blocks c.args.k c.requires.block in
    part_below c.args.plan.now.survey.now c.args.plan.now.blocks.now block.0 c.in-Some.records.numbers.now c.requires.blocks (c.in-Some.ensures.numbers block.0 block.1)

pub draw_numbered-requires-clause-numbers : goal.draw_numbered-requires-clause-numbers
draw_numbered-requires-clause-numbers c =
    omega (arith, c.block-block.ensures.within, length-once (record_count c.args.plan.now.survey.now) c.args.plan.now.blocks.now.members c.requires.blocks.members)

pub returns-in-Some-clause-drawn : goal.returns-in-Some-clause-drawn
returns-in-Some-clause-drawn c =
    let plan = c.args.plan.now in
    let block = block_at plan.blocks.now.blocks c.args.k c.requires.block in
    c.draw_copied.ensures.drawn
    ∙ ap (plotting (drawn c.args.seat.now c.args.batch.now))
    (block_pairs-part plan.survey.now plan.classes.now plan.camera.now plan.filter.now plan.blocks.now c.args.k block.0 c.in-Some.records.numbers.now block.1 (c.in-Some.ensures.numbers block.0 block.1))

pub returns-in-None-clause-drawn : goal.returns-in-None-clause-drawn
returns-in-None-clause-drawn c =
    let plan = c.args.plan.now in
    let block = c.block-block.result.now in
    c.draw_numbered.ensures.drawn
    ∙ ap (plotting (drawn c.args.seat.now c.args.batch.now))
    (block_pairs-part plan.survey.now plan.classes.now plan.camera.now plan.filter.now plan.blocks.now c.args.k block _ c.block-block.ensures.block
    (part-numbered plan.blocks.now.members block c.in-None.ensures.none c.block-block.ensures.within))
