use Rattle.view_words.specs.CommandLine.{texts}
use Rattle.view_commands.proofs.Rows.{row-draw, row-info, row-trial}
use Rattle.view_commands.proofs.running.run_row.Goals as goal

pub returns-in-Draw : goal.returns-in-Draw
returns-in-Draw g c = rw c.in-Draw.is (row-draw _ _ _ (texts c.args.words.now) c.draw.result c.only.result c.only.ensures.status c.only.ensures.told c.draw.ensures)

pub returns-in-Info : goal.returns-in-Info
returns-in-Info g c = rw c.in-Info.is (row-info _ _ _ (texts c.args.words.now) c.info.result _ c.only-in-Info.ensures.status c.only-in-Info.ensures.told c.info.ensures)

pub returns-in-Trial : goal.returns-in-Trial
returns-in-Trial g c = rw c.in-Trial.is (row-trial _ _ _ (texts c.args.words.now) c.trial.result _ c.only-in-Trial.ensures.status c.only-in-Trial.ensures.told c.trial.ensures.answers)
