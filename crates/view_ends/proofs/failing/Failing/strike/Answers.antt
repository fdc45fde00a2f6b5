use Rattle.std.proofs.Common.{sym, ◌∷◌, subst, IsPermutation}
use Rattle.std.proofs.lemmas.List.Sorted.{IsPermutation-remove}
use Rattle.std.proofs.lemmas.Option.{get_or_from_slice_get, slice_get_within}
use Rattle.view_ends.proofs.failing.Failing.strike.Goals as goal

pub returns-in-Some : goal.returns-in-Some
returns-in-Some c =
    let places = c.args.self.now.places.items in
    let struck = IsPermutation-remove places c.in-Some.i c.args.at (slice_get_within places c.in-Some.i c.args.at c.in-Some.ensures) (sym (get_or_from_slice_get places c.in-Some.i c.args.at c.args.at c.in-Some.ensures)) in
    subst (λ rest. IsPermutation places (c.args.at ∷ rest)) (sym c.remove.ensures.items) struck
