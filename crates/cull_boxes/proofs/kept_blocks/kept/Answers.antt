use Rattle.std.proofs.Common.{◌∙◌}
use Rattle.std.proofs.lemmas.Result.{IfOk-weaker}
use Rattle.cull_boxes.specs.Kept.{HasEachInView, IsKept}
use Rattle.cull_boxes.proofs.Corners.{tells_outside}
use Rattle.cull_boxes.proofs.Keeping.{kept_in_view}
use Rattle.cull_boxes.proofs.kept_blocks.kept.Goals as goal

pub returns-in-Some-clause-kept : goal.returns-in-Some-clause-kept
returns-in-Some-clause-kept c = c.kept_by.ensures.kept c.args.camera.now (tells_outside c.args.camera.now c.in-Some.narrow (c.in-Some.ensures ∙ c.half_spaces-spaces.ensures.list))

pub returns-in-Some-clause-in_view : goal.returns-in-Some-clause-in_view
returns-in-Some-clause-in_view c =
    IfOk-weaker c.kept_by.result (IsKept c.args.camera.now c.args.blocks.now.blocks) (HasEachInView c.args.camera.now c.args.blocks.now.blocks)
    (λ kept. kept_in_view c.args.camera.now c.args.blocks.now.blocks c.half_spaces-spaces.result kept c.half_spaces-spaces.ensures.list c.half_spaces-spaces.ensures.in_view)
    (c.kept_by.ensures.kept c.args.camera.now (tells_outside c.args.camera.now c.in-Some.narrow (c.in-Some.ensures ∙ c.half_spaces-spaces.ensures.list)))

pub returns-in-None-clause-kept : goal.returns-in-None-clause-kept
returns-in-None-clause-kept c = c.kept_by-in-None.ensures.kept c.args.camera.now (tells_outside c.args.camera.now c.half_spaces-spaces.result c.half_spaces-spaces.ensures.list)

pub returns-in-None-clause-in_view : goal.returns-in-None-clause-in_view
returns-in-None-clause-in_view c =
    IfOk-weaker c.kept_by-in-None.result (IsKept c.args.camera.now c.args.blocks.now.blocks) (HasEachInView c.args.camera.now c.args.blocks.now.blocks)
    (λ kept. kept_in_view c.args.camera.now c.args.blocks.now.blocks c.half_spaces-spaces.result kept c.half_spaces-spaces.ensures.list c.half_spaces-spaces.ensures.in_view)
    (c.kept_by-in-None.ensures.kept c.args.camera.now (tells_outside c.args.camera.now c.half_spaces-spaces.result c.half_spaces-spaces.ensures.list))
