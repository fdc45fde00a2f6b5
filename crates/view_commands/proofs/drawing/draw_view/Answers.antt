use Rattle.std.proofs.Common.{List, [], ℕ, subst}
use Rattle.view_base.specs.Fitting.{word_at}
use Rattle.view_words.specs.CommandLine.{texts}
use Rattle.view_meaning.specs.Picture.{picture}
use Rattle.view_meaning.specs.Classes.{classes}
use Rattle.view_commands.specs.Texts.{MakesText, colour_refusal}
use Rattle.view_commands.proofs.drawing.draw_view.Goals as goal

pub returns : goal.returns
returns g c =
    let tells = g.D.Desk.tells in
    let old = g.D.Desk.says c.args.desk.now in
    let new = g.D.Desk.says c.draw_file.new.desk in
    let text = λ (b : List ℕ). picture b (classes b []) c.args.view.now in
    subst (λ (name : List ℕ). MakesText tells old new name (word_at (texts c.args.words.now) 2) (colour_refusal c.args.view.now) text c.draw_file.result) c.text_at-name.ensures
    (subst (λ (out : List ℕ). MakesText tells old new c.text_at-name.result.now out (colour_refusal c.args.view.now) text c.draw_file.result) c.text_at-out.ensures c.draw_file.ensures)
