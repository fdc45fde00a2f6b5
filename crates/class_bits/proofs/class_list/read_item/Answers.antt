use Rattle.std.proofs.Common.{sym, ◌∙◌, ◌+◌, drop, ◌≡◌}
use Rattle.std.proofs.lemmas.List.{take_rest}
use Rattle.view_base.specs.Text.{digits}
use Rattle.class_bits.proofs.Items.{item_range-cut, item_range-whole}
use Rattle.class_bits.proofs.class_list.read_item.Goals as goal

pub returns-in-Some-clause-value : goal.returns-in-Some-clause-value
returns-in-Some-clause-value c =
    let last : c.read_digits-in-Some.result ≡ digits (drop (c.in-Some.dash + 1) c.args.item.now) = rw take_rest at c.read_digits-in-Some.ensures.value in
    c.range.ensures.value ∙ rw (c.read_digits.ensures.value, last) (sym (item_range-cut c.args.item.now c.in-Some.dash (sym c.first_dash.ensures ∙ c.in-Some.is)))

pub returns-in-None-clause-value : goal.returns-in-None-clause-value
returns-in-None-clause-value c =
    c.range-in-None.ensures.value ∙ rw c.read_digits-only.ensures.value (sym (item_range-whole c.args.item.now (sym c.first_dash.ensures ∙ c.in-None.is)))
