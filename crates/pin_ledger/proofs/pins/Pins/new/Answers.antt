use Rattle.std.proofs.Common.{◌∙◌, ap, sym, subst}
use Rattle.pin_ledger.specs.Ledger.{pins_of, EachHasPin}
use Rattle.pin_ledger.proofs.Counting.{pins_of-nil, each-nil}
use Rattle.pin_ledger.proofs.pins.Pins.new.Goals as goal

pub invariant_of-result : goal.invariant_of-result
invariant_of-result c = subst EachHasPin (sym c.new.ensures.items) each-nil

pub returns : goal.returns
returns c = λ v. ap (λ l. pins_of l v) c.new.ensures.items ∙ pins_of-nil v
