use Rattle.std.proofs.Common.{◌≡◌, ◌∙◌, ℕ, false, sym, arith}
use borrow.Author.Count.{below_more}
use Rattle.view_words.specs.CommandLine.{texts, barred}
use Rattle.view_words.proofs.Names.{is_taken-some, is_taken-none}
use Rattle.view_words.proofs.refusing.is_taken.Goals as goal

pub returns-then-is_barred : goal.returns-then-is_barred
returns-then-is_barred c =
    sym (is_taken-some c.args.row (texts c.args.words.now) c.args.at c.loop-earlier.earlier c.loop-earlier-test.true (sym c.is_barred.ensures ∙ c.if-is_barred.true))

pub loop-earlier-preserved : goal.loop-earlier-preserved
loop-earlier-preserved c =
    below_more (λ (j : ℕ). barred c.args.row (texts c.args.words.now) c.args.at j ≡ false) c.loop-earlier.earlier c.loop-earlier.invariant (sym c.is_barred.ensures ∙ c.if-is_barred.false)

pub returns : goal.returns
returns c =
    sym (is_taken-none c.args.row (texts c.args.words.now) c.args.at (λ j below. c.loop-earlier.invariant j (omega arith)))
