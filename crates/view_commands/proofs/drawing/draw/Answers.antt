use Rattle.std.proofs.Common.{◌∙◌, Err, refl, sym, ap}
use Rattle.view_text.specs.declared.fault.TextFault.{TextFault}
use Rattle.view_words.specs.CommandLine.{texts}
use Rattle.view_commands.proofs.Counts.{same_said}
use Rattle.view_commands.proofs.Drawn.{answers-view, answers-words, answers-limit}
use Rattle.view_commands.proofs.drawing.draw.Goals as goal

pub returns-in-Ok : goal.returns-in-Ok
returns-in-Ok g c = answers-view _ _ _ (texts c.args.words.now) c.in-Ok.view c.draw_view.result (sym c.read_draw.ensures.view ∙ c.in-Ok.is) c.draw_view.ensures

pub returns-in-Line : goal.returns-in-Line
returns-in-Line g c =
    answers-words _ _ _ (texts c.args.words.now) c.in-Line.at _ (sym c.read_draw.ensures.view ∙ c.in-Err.is ∙ ap (λ (f : TextFault). Err f) c.in-Line.is) refl (same_said (g.D.Desk.says c.args.desk.now))

pub returns-in-Limit : goal.returns-in-Limit
returns-in-Limit g c =
    answers-limit _ _ _ (texts c.args.words.now) c.in-Limit.limit _ (sym c.read_draw.ensures.view ∙ c.in-Err.is ∙ ap (λ (f : TextFault). Err f) c.in-Limit.is) refl (same_said (g.D.Desk.says c.args.desk.now))
