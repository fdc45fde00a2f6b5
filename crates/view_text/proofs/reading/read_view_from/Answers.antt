use Rattle.std.proofs.Common.{◌∙◌, sym}
use Rattle.view_base.specs.Cursor.{all_words}
use Rattle.view_text.proofs.Views.{view_of-misfit, view_of-fitting}
use Rattle.view_text.proofs.reading.read_view_from.Goals as goal

pub returns-in-Err : goal.returns-in-Err
returns-in-Err c = sym (view_of-misfit (all_words c.args.source) c.in-Err.at c.in-Err.ensures.misfit)

pub returns-in-Ok : goal.returns-in-Ok
returns-in-Ok c =
    let said = c.in-Ok.ensures in
    c.view_through.ensures ∙ sym (view_of-fitting (all_words c.args.source) _ _ _ _ said.fit said.kind said.numbers said.colouring said.filter)
