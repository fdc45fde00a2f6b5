use Rattle.std.proofs.Common.{subst, sym}
use Rattle.std.proofs.lemmas.Result.{IfOk-weaker}
use Rattle.view_meaning.specs.Survey.{format_of}
use Rattle.class_pages.specs.Choosing.{IsChosen}
use Rattle.class_pages.specs.Fitting.{EachFits}
use Rattle.version_store.proofs.by_blocks.chosen_by.Goals as goal

pub returns-clause-top : goal.returns-clause-top
returns-clause-top g c =
    IfOk-weaker c.picked_by.result
    (λ made. IsChosen c.args.survey.now (g.T.Chooser.picks c.args.chooser.now) c.args.classes.now made.0 made.1)
    (λ made. EachFits (format_of c.args.survey.now) made.0)
    (λ made picked. subst (EachFits (format_of c.args.survey.now)) (sym picked.classes) c.requires.room)
    c.picked_by.ensures
