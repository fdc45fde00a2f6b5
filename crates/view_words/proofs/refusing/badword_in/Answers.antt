use Rattle.std.proofs.Common.{◌∙◌, sym, ap}
use Rattle.view_words.specs.CommandLine.{texts, badword_in}
use Rattle.view_words.proofs.ViewPart.{badword_in-drawn}
use Rattle.view_words.proofs.refusing.badword_in.Goals as goal

pub returns-in-Draw : goal.returns-in-Draw
returns-in-Draw c = c.refused_at.ensures ∙ sym (badword_in-drawn (texts c.args.words.now) c.view_in.result c.view_in.ensures) ∙ ap (λ row. badword_in row (texts c.args.words.now)) (sym c.in-Draw.is)
