use Rattle.std.proofs.lemmas.Result.{IfOk-weaker}
use Rattle.view_meaning.specs.Survey.{format_of}
use Rattle.class_pages.specs.Choosing.{IsChosen, by_edit}
use Rattle.class_pages.specs.Edited.{IsEdited}
use Rattle.class_pages.proofs.ByEdit.{edited_is}
use Rattle.class_pages.proofs.Fitting.{after_edit-bytes}
use Rattle.class_pages.proofs.classes.Classes.edited.Goals as goal

pub picked-requires-clause-bytes : goal.picked-requires-clause-bytes
picked-requires-clause-bytes c = λ bytes.
    after_edit-bytes c.args.survey.now c.args.self.now c.args.edit.now (format_of c.args.survey.now) c.requires.room bytes

pub returns : goal.returns
returns c =
    IfOk-weaker c.picked.result
    (λ made. IsChosen c.args.survey.now (by_edit c.args.edit.now) c.args.self.now made.0 made.1)
    (λ made. IsEdited c.args.survey.now c.args.edit.now c.args.self.now made.0 made.1)
    (λ made chosen. edited_is c.args.survey.now c.args.edit.now c.args.self.now made.0 made.1 c.requires.room chosen)
    c.picked.ensures
