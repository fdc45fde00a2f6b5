use Rattle.std.proofs.Common.{subst, sym}
use Rattle.std.proofs.lemmas.Result.{IfOk-weaker}
use Rattle.view_meaning.specs.Survey.{format_of}
use Rattle.class_pages.specs.Choosing.{IsChosen, chosen}
use Rattle.class_pages.specs.Fitting.{EachFits}
use Rattle.class_pages.proofs.Fitting.{fits-bytes}
use Rattle.class_pages.proofs.classes.Classes.chosen.Goals as goal

pub picked-requires-clause-bytes : goal.picked-requires-clause-bytes
picked-requires-clause-bytes g c = λ bytes. fits-bytes (format_of c.args.survey.now) (chosen c.args.survey.now (g.T.Chooser.picks c.args.chooser.now) c.args.self.now) c.requires.room

pub returns-clause-top : goal.returns-clause-top
returns-clause-top g c =
    IfOk-weaker c.picked.result
    (λ made. IsChosen c.args.survey.now (g.T.Chooser.picks c.args.chooser.now) c.args.self.now made.0 made.1)
    (λ made. EachFits (format_of c.args.survey.now) made.0)
    (λ made picked. subst (EachFits (format_of c.args.survey.now)) (sym picked.classes) c.requires.room)
    c.picked.ensures
