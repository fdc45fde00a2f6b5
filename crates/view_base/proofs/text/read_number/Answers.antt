use Rattle.std.proofs.Common.{◌≡◌, Some, None, drop, pos, neg_ℤ, sym, ap, ◌∙◌, refl, arith, eqb-true}
use Rattle.std.proofs.lemmas.Int.{ints}
use Rattle.std.proofs.lemmas.List.{take_rest}
use Rattle.view_base.specs.Text.{digits}
use Rattle.view_base.proofs.Digits.{number-empty, number-minus, number-plain, some_from_test}
use Rattle.view_base.proofs.text.read_number.Goals as goal

pub returns-then-is_empty : goal.returns-then-is_empty
returns-then-is_empty c = sym (number-empty c.args.word.now (eqb-true _ _ (sym c.if-is_empty.ensures)))

pub returns-in_err-read_digits : goal.returns-in_err-read_digits
returns-in_err-read_digits c =
    let word = c.args.word.now in
    let none : digits (drop 1 word) ≡ None = rw take_rest at (sym c.read_digits.ensures.value ∙ c.in_err-read_digits.was) in
    c.from_residual.ensures ∙ sym (number-minus word (some_from_test _ (sym c.if-is_empty.ensures)) c.if-word-eq45.true ∙ rw none refl)

pub returns-then-word-eq45 : goal.returns-then-word-eq45
returns-then-word-eq45 c =
    let word = c.args.word.now in
    let size = c.in_ok-read_digits.field-0 in
    let some : digits (drop 1 word) ≡ Some size = rw take_rest at (sym c.read_digits.ensures.value ∙ c.in_ok-read_digits.was) in
    ap Some {y = neg_ℤ (pos size)} (omega (arith, ints, c.in_ok-read_digits.ensures.small)) ∙ sym (number-minus word (some_from_test _ (sym c.if-is_empty.ensures)) c.if-word-eq45.true ∙ rw some refl)

pub returns-in_err-read_digits-2 : goal.returns-in_err-read_digits-2
returns-in_err-read_digits-2 c =
    let none = sym c.read_digits-2.ensures.value ∙ c.in_err-read_digits-2.was in
    c.from_residual-in_err-read_digits-2.ensures ∙ sym (number-plain c.args.word.now (some_from_test _ (sym c.if-is_empty.ensures)) c.if-word-eq45.false ∙ rw none refl)

pub returns : goal.returns
returns c =
    let some = sym c.read_digits-2.ensures.value ∙ c.in_ok-read_digits-2.was in
    ap Some {y = pos c.in_ok-read_digits-2.field-0} (omega (arith, ints, c.in_ok-read_digits-2.ensures.small)) ∙ sym (number-plain c.args.word.now (some_from_test _ (sym c.if-is_empty.ensures)) c.if-word-eq45.false ∙ rw some refl)
