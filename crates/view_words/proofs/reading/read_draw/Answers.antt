use Rattle.std.proofs.Common.{◌≡◌, ◌≤◌, ◌∙◌, List, [], ◌∷◌, length, Ok, Err, OnOk, Result, true, false, sym, arith}
use Rattle.std.specs.Prelude.{String}
use Rattle.view_meaning.specs.Picture.{View}
use Rattle.view_text.specs.declared.fault.TextFault.{TextFault}
use Rattle.std.specs.Str.{bytes_eq}
use Rattle.view_base.specs.Fitting.{word_at}
use Rattle.view_words.specs.declared.row.Row.TheVariants.{Draw}
use Rattle.view_words.specs.CommandLine.{texts, command, draw_of, IsLine}
use Rattle.view_words.proofs.Lines.{length-texts, length-draw}
use Rattle.view_words.proofs.Refusals.{badword-unbegun, badword-begun, row_in-own, row_in-other}
use Rattle.view_words.proofs.ViewPart.{draw_of-refused, draw_of-begun, draw_of-line}
use Rattle.view_words.proofs.reading.read_draw.Goals as goal

pub returns-then-not-begins-clause-view : goal.returns-then-not-begins-clause-view
returns-then-not-begins-clause-view c =
    let other : bytes_eq (word_at (texts c.args.words.now) 0) (command Draw) ≡ false = cc in
    sym (draw_of-refused (texts c.args.words.now) 0 (badword-unbegun (Draw ∷ []) (texts c.args.words.now) (row_in-other Draw (texts c.args.words.now) other)))

asked : (c : goal.After-view_in) → c.view_in.result ≡ draw_of (texts c.args.words.now)
asked c =
    let own : bytes_eq (word_at (texts c.args.words.now) 0) (command Draw) ≡ true = cc in
    c.view_in.ensures ∙ sym (draw_of-begun (texts c.args.words.now) (badword-begun (Draw ∷ []) Draw (texts c.args.words.now) (row_in-own Draw (texts c.args.words.now) own)))

pub returns-clause-view : goal.returns-clause-view
returns-clause-view c = asked c

pub returns-clause-fits : goal.returns-clause-fits
returns-clause-fits c = draw_of-line (texts c.args.words.now) c.view_in.result (asked c)

pub returns-clause-long : goal.returns-clause-long
returns-clause-long c = long c.args.words.now c.view_in.result (draw_of-line (texts c.args.words.now) c.view_in.result (asked c))
  where
    long : {Y : Type 0} (words : List (String Y)) (read : Result View TextFault) → OnOk read (IsLine Draw (texts words)) → OnOk read (26 ≤ length words)
    long words (Ok view) line = omega (arith, length-texts words, length-draw (texts words) line)
    long words (Err fault) line = tt
