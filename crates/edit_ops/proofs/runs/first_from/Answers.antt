use Rattle.std.proofs.Common.{◌∙◌, sym}
use Rattle.edit_ops.proofs.RunsOf.{members_from-out}
use Rattle.edit_ops.proofs.runs.first_from.Goals as goal

pub loop-class-preserved : goal.loop-class-preserved
loop-class-preserved c =
    c.loop-class.invariant ∙ members_from-out c.args.classes.now c.loop-class.class c.loop-class-test.true (sym c.if-has.ensures)
