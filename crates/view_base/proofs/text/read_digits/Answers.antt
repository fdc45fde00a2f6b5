use Rattle.std.proofs.Common.{arith, sym, ◌≡◌, eqb-true, ◌∙◌, ap, Some, get_or, length, take}
use Rattle.std.specs.Char.{is_ascii_digit}
use Rattle.std.proofs.lemmas.List.Folds.{list_all_more, list_all_at}
use Rattle.std.proofs.lemmas.Bool.{and_from}
use Rattle.std.proofs.lemmas.List.{take_all}
use Rattle.view_base.proofs.Digits.{some_from_test, range-from_digit, digits-some, digits-empty, digits-long, digits-other, digits_value-one_more, digits_value-below_20}
use Rattle.view_base.proofs.text.read_digits.Goals as goal
use Rattle.view_base.proofs.text.read_digits.Goals.{then-is_empty-via-then-is_empty, then-is_empty-via-else-is_empty+then-word-gt20}

pub returns-then-is_empty-clause-value : goal.returns-then-is_empty-clause-value
returns-then-is_empty-clause-value c =
    elim c.then-is_empty.branch [
      | then-is_empty-via-then-is_empty w ↦ sym (digits-empty c.args.word.now (eqb-true _ _ (sym w.if-is_empty.ensures)))
      | then-is_empty-via-else-is_empty+then-word-gt20 w ↦ sym (digits-long c.args.word.now w.if-word-gt20.true)
    ]

pub returns-then-not-is_ascii_digit-clause-value : goal.returns-then-not-is_ascii_digit-clause-value
returns-then-not-is_ascii_digit-clause-value c =
    sym (digits-other c.args.word.now (list_all_at is_ascii_digit c.args.word.now c.loop-byte.byte-index 0 c.loop-byte-test.true (sym c.if-not-is_ascii_digit.ensures.value)))

pub overflow_mul-value : goal.overflow_mul-value
overflow_mul-value c =
    let below = digits_value-below_20 c.args.word.now c.loop-byte.byte-index c.loop-byte.invariant.all_digits (omega arith) in
    let now = c.loop-byte.invariant.value in
    omega arith

pub overflow_add-value : goal.overflow_add-value
overflow_add-value c =
    let below = digits_value-below_20 c.args.word.now c.loop-byte.byte-index c.loop-byte.invariant.all_digits (omega arith) in
    let now = c.loop-byte.invariant.value in
    let range = range-from_digit (get_or c.args.word.now c.loop-byte.byte-index 0) (sym c.if-not-is_ascii_digit.ensures.value) in
    omega arith

pub loop-byte-preserved : goal.loop-byte-preserved
loop-byte-preserved c =
    let digit = sym c.if-not-is_ascii_digit.ensures.value in
    record {
      value = rw (c.loop-byte.invariant.value, c.from.ensures) (digits_value-one_more c.args.word.now c.loop-byte.byte-index c.loop-byte-test.true digit);
      all_digits = list_all_more is_ascii_digit c.args.word.now c.loop-byte.byte-index 0 c.loop-byte-test.true ∙ and_from _ _ c.loop-byte.invariant.all_digits digit;
    }

pub returns-clause-value : goal.returns-clause-value
returns-clause-value c =
    let word = c.args.word.now in
    let whole : take c.loop-byte.byte-index word ≡ word = take_all c.loop-byte.byte-index word c.loop-byte-test.false in
    let value = rw whole at c.loop-byte.invariant.value in
    let all = rw whole at c.loop-byte.invariant.all_digits in
    ap Some value ∙ sym (digits-some word all (some_from_test (length word) (sym c.if-is_empty.ensures)) c.if-word-gt20.false)

pub returns-clause-small : goal.returns-clause-small
returns-clause-small c =
    let below = digits_value-below_20 c.args.word.now c.loop-byte.byte-index c.loop-byte.invariant.all_digits c.if-word-gt20.false in
    let now = c.loop-byte.invariant.value in
    omega arith
