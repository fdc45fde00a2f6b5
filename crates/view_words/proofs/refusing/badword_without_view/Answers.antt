use Rattle.std.proofs.Common.{◌≡◌, ◌∙◌, ℕ, true, false, Some, length, sym, ap, arith}
use Rattle.view_words.specs.CommandLine.{texts, is_whole}
use Rattle.view_words.proofs.Lines.{length-texts}
use Rattle.view_words.proofs.Refusals.{badword_in-missing, badword_in-none}
use Rattle.view_words.proofs.refusing.badword_without_view.Goals as goal

pub returns-then-is_whole : goal.returns-then-is_whole
returns-then-is_whole c =
    let all : is_whole c.args.row (length (texts c.args.words.now)) ≡ true = ap (is_whole c.args.row) (length-texts c.args.words.now) ∙ sym c.is_whole.ensures ∙ c.if-is_whole.true in
    sym (badword_in-none c.args.row (texts c.args.words.now) (λ k below. c.in_default.ensures.none k (omega (arith, below, length-texts c.args.words.now))) all)

pub returns-else-is_whole : goal.returns-else-is_whole
returns-else-is_whole c =
    let part : is_whole c.args.row (length (texts c.args.words.now)) ≡ false = ap (is_whole c.args.row) (length-texts c.args.words.now) ∙ sym c.is_whole.ensures ∙ c.if-is_whole.false in
    ap (λ (n : ℕ). Some n) (sym (length-texts c.args.words.now)) ∙ sym (badword_in-missing c.args.row (texts c.args.words.now) (λ k below. c.in_default.ensures.none k (omega (arith, below, length-texts c.args.words.now))) part)
