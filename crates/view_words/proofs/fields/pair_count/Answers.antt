use Rattle.std.proofs.Common.{arith}
use Rattle.view_words.specs.CommandLine.{texts}
use Rattle.view_words.proofs.Lines.{length-texts, length-serve}
use Rattle.view_words.proofs.fields.pair_count.Goals as goal

pub overflow_sub-result : goal.overflow_sub-result
overflow_sub-result c = let line = length-serve (texts c.args.words.now) c.requires in omega (arith, line.0, length-texts c.args.words.now)

pub overflow_cast-result : goal.overflow_cast-result
overflow_cast-result c = let line = length-serve (texts c.args.words.now) c.requires in omega (arith, line.2, length-texts c.args.words.now)

pub returns-clause-count : goal.returns-clause-count
returns-clause-count c = let line = length-serve (texts c.args.words.now) c.requires in omega (arith, line.0, length-texts c.args.words.now)

pub returns-clause-some : goal.returns-clause-some
returns-clause-some c = let line = length-serve (texts c.args.words.now) c.requires in omega (arith, line.1, length-texts c.args.words.now)

pub returns-clause-few : goal.returns-clause-few
returns-clause-few c = let line = length-serve (texts c.args.words.now) c.requires in omega (arith, line.2, length-texts c.args.words.now)
