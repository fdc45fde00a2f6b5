use Rattle.std.proofs.Common.{◌∙◌, arith}
use Rattle.edit_ops.proofs.RunsOf.{members_from-end, first_run}
use Rattle.edit_ops.proofs.runs.next_run.Goals as goal

pub returns-then-first-eq256-clause-none : goal.returns-then-first-eq256-clause-none
returns-then-first-eq256-clause-none c =
    c.first_from-first.ensures.skipped ∙ rw c.if-first-eq256.true (members_from-end c.args.classes.now)

pub returns-clause-run : goal.returns-clause-run
returns-clause-run c =
    first_run c.args.classes.now c.args.from c.first_from-first.result c.run_end.result c.first_from-first.ensures.skipped c.run_end.ensures.after (omega arith) c.run_end.ensures.run c.run_end.ensures.ends
