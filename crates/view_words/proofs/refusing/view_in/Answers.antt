use Rattle.std.proofs.Common.{◌<◌, ◌∙◌, ℕ, length, Err, sym, ap, arith}
use Rattle.std.proofs.lemmas.Bool.{ne_eqb}
use Rattle.view_text.specs.declared.fault.TextFault.{TextFault}
use Rattle.view_text.specs.declared.fault.TextFault.TheVariants.{Line}
use Rattle.view_words.specs.declared.row.Row.TheVariants.{Draw}
use Rattle.view_words.specs.CommandLine.{texts}
use Rattle.view_words.proofs.Lines.{length-texts}
use Rattle.view_words.proofs.Refusals.{badword_in-missing}
use Rattle.view_words.proofs.ViewPart.{moved, drawn_view-refused, drawn_view-read, view_of-read, view_of-few}
use Rattle.view_words.proofs.refusing.view_in.Goals as goal

pub returns-in-Some : goal.returns-in-Some
returns-in-Some c = sym (drawn_view-refused (texts c.args.words.now) c.in-Some.at c.in-Some.ensures.some)

pub returns-then-words-lt-VIEW : goal.returns-then-words-lt-VIEW
returns-then-words-lt-VIEW c =
    let ws = texts c.args.words.now in
    let size = length-texts c.args.words.now in
    let few : length ws < 4 = omega (arith, size, c.if-words-lt-VIEW.true) in
    let missing = badword_in-missing Draw ws (λ k below. c.in_default.ensures.none k (omega (arith, below, size, c.min.ensures, c.if-words-lt-VIEW.true))) (ne_eqb (length ws) 26 (omega (arith, few))) in
    ap (λ (n : ℕ). Err (Line n)) (sym size) ∙ sym (drawn_view-refused ws (length ws) missing)

pub overflow_add-result : goal.overflow_add-result
overflow_add-result c =
    let read = view_of-read c.args.words.now _ c.if-words-lt-VIEW.false c.read_view_from.ensures in
    omega (arith, view_of-few _ c.in-Line.at (sym read ∙ c.in-Err.is ∙ ap (λ (f : TextFault). Err f) c.in-Line.is))

pub returns-in-Ok : goal.returns-in-Ok
returns-in-Ok c =
    sym (ap moved c.in-Ok.is) ∙ drawn_view-read c.args.words.now _ c.if-words-lt-VIEW.false c.read_view_from.ensures (λ k below. c.in_default.ensures.none k (omega (arith, below, c.min.ensures, c.if-words-lt-VIEW.false)))

pub returns-in-Line : goal.returns-in-Line
returns-in-Line c =
    sym (ap moved (c.in-Err.is ∙ ap (λ (f : TextFault). Err f) c.in-Line.is)) ∙ drawn_view-read c.args.words.now _ c.if-words-lt-VIEW.false c.read_view_from.ensures (λ k below. c.in_default.ensures.none k (omega (arith, below, c.min.ensures, c.if-words-lt-VIEW.false)))

pub returns-in-Limit : goal.returns-in-Limit
returns-in-Limit c =
    sym (ap moved (c.in-Err.is ∙ ap (λ (f : TextFault). Err f) c.in-Limit.is)) ∙ drawn_view-read c.args.words.now _ c.if-words-lt-VIEW.false c.read_view_from.ensures (λ k below. c.in_default.ensures.none k (omega (arith, below, c.min.ensures, c.if-words-lt-VIEW.false)))
