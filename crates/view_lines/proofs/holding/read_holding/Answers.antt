use Rattle.std.proofs.Common.{sym}
use Rattle.view_lines.proofs.HoldingOf.{holding_of-wordless, holding_of-more}
use Rattle.view_lines.proofs.holding.read_holding.Goals as goal

pub returns-in_default : goal.returns-in_default
returns-in_default c = sym (holding_of-wordless c.args.line.now c.in_default.ensures.wordless)

pub returns-in-Some-next_word : goal.returns-in-Some-next_word
returns-in-Some-next_word c = sym (holding_of-more c.args.line.now _ _ _ _ c.in-Some.ensures.word c.in-Some-next_word.ensures.word)
