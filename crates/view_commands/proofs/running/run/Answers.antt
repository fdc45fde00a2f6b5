use Rattle.std.proofs.Common.{◌∙◌, sym}
use Rattle.view_words.specs.CommandLine.{texts}
use Rattle.view_commands.proofs.Counts.{same_said}
use Rattle.view_commands.proofs.Rows.{runs-row, runs-none}
use Rattle.view_commands.proofs.running.run.Goals as goal

pub returns-in-Some-clause-runs : goal.returns-in-Some-clause-runs
returns-in-Some-clause-runs g c = runs-row _ _ _ (texts c.args.words.now) c.run_row.result c.in-Some.row (sym c.row_of.ensures ∙ c.in-Some.is) c.run_row.ensures

pub returns-in-None-clause-runs : goal.returns-in-None-clause-runs
returns-in-None-clause-runs g c =
    runs-none _ _ _ (texts c.args.words.now) c.only.result (sym c.row_of.ensures ∙ c.in-None.is) (c.only.ensures.status, same_said (g.D.Desk.says c.args.desk.now), c.only.ensures.told)
