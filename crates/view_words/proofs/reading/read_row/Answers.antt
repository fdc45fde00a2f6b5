use Rattle.std.proofs.Common.{◌≡◌, arith, ◌∙◌, [], ◌∷◌, sym, true, false}
use Rattle.std.specs.Str.{bytes_eq}
use Rattle.view_base.specs.Fitting.{word_at}
use Rattle.view_words.specs.CommandLine.{texts, IsLine, command}
use Rattle.view_words.proofs.Lines.{length-texts, least_words-line}
use Rattle.view_words.proofs.Refusals.{badword-unbegun, badword-begun, row_in-own, row_in-other}
use Rattle.view_words.proofs.reading.read_row.Goals as goal

pub returns-then-not-begins-clause-refused : goal.returns-then-not-begins-clause-refused
returns-then-not-begins-clause-refused c =
    let other : bytes_eq (word_at (texts c.args.words.now) 0) (command c.args.row) ≡ false = cc in
    badword-unbegun (c.args.row ∷ []) (texts c.args.words.now) (row_in-other c.args.row (texts c.args.words.now) other)

pub returns-in-Some-clause-refused : goal.returns-in-Some-clause-refused
returns-in-Some-clause-refused c =
    let own : bytes_eq (word_at (texts c.args.words.now) 0) (command c.args.row) ≡ true = cc in
    badword-begun (c.args.row ∷ []) c.args.row (texts c.args.words.now) (row_in-own c.args.row (texts c.args.words.now) own) ∙ sym c.in-Some.ensures

line : (c : goal.In-None) → IsLine c.args.row (texts c.args.words.now)
line c =
    let own : bytes_eq (word_at (texts c.args.words.now) 0) (command c.args.row) ≡ true = cc in
    badword-begun (c.args.row ∷ []) c.args.row (texts c.args.words.now) (row_in-own c.args.row (texts c.args.words.now) own) ∙ sym c.in-None.ensures

pub returns-in-None-clause-fits : goal.returns-in-None-clause-fits
returns-in-None-clause-fits c = line c

pub returns-in-None-clause-long : goal.returns-in-None-clause-long
returns-in-None-clause-long c = omega (arith, length-texts c.args.words.now, least_words-line c.args.row (texts c.args.words.now) (line c))
