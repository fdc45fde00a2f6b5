use Rattle.std.proofs.lemmas.Result.{IfOk-weaker}
use Rattle.class_pages.specs.Choosing.{IsChosen, by_edit}
use Rattle.class_pages.specs.Edited.{IsEdited}
use Rattle.class_pages.proofs.ByEdit.{edit_settled, edited_is}
use Rattle.version_store.proofs.by_blocks.edited_by.Goals as goal

pub picked_by-requires-clause-settled : goal.picked_by-requires-clause-settled
picked_by-requires-clause-settled c = edit_settled c.args.edit.now

pub returns : goal.returns
returns c =
    IfOk-weaker c.picked_by.result
    (λ made. IsChosen c.args.survey.now (by_edit c.args.edit.now) c.args.classes.now made.0 made.1)
    (λ made. IsEdited c.args.survey.now c.args.edit.now c.args.classes.now made.0 made.1)
    (λ made chosen. edited_is c.args.survey.now c.args.edit.now c.args.classes.now made.0 made.1 c.requires.room chosen)
    c.picked_by.ensures
