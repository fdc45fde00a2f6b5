use Rattle.std.proofs.Common.{◌∙◌, sym, arith}
use Rattle.view_words.specs.CommandLine.{texts}
use Rattle.view_words.proofs.Lines.{length-texts}
use Rattle.view_words.proofs.Refusals.{unrefused_few, badword_in-refused}
use Rattle.view_words.proofs.refusing.first_refused.Goals as goal

pub overflow_cast-result : goal.overflow_cast-result
overflow_cast-result c = omega (arith, unrefused_few c.args.row (texts c.args.words.now) c.loop-at.at c.loop-at.invariant)

pub returns-then-is_refused-clause-some : goal.returns-then-is_refused-clause-some
returns-then-is_refused-clause-some c =
    badword_in-refused c.args.row (texts c.args.words.now) c.loop-at.at (omega (arith, length-texts c.args.words.now)) c.loop-at.invariant (sym c.is_refused.ensures ∙ c.if-is_refused.true)

pub returns-clause-few : goal.returns-clause-few
returns-clause-few c = omega (arith, unrefused_few c.args.row (texts c.args.words.now) c.loop-at.at c.loop-at.invariant)
