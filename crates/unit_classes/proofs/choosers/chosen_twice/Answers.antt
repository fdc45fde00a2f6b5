use Rattle.std.proofs.Common.{◌≡◌, ℕ, ◌<◌, ◌≤◌, List, length, map, sym, subst, arith}
use Rattle.std.proofs.lemmas.Bool.Decides.{nat_tests}
use Rattle.std.proofs.lemmas.List.FromFn.{get_or-map-range_with_len, length-map-range_with_len}
use Rattle.std.specs.List.{range_with_len}
use Rattle.view_meaning.specs.Classes.{top_class}
use Rattle.class_pages.specs.Choosing.{chosen}
use Rattle.class_pages.specs.Fitting.{EachFits}
use Rattle.unit_classes.specs.Six.{six}
use Rattle.unit_classes.proofs.choosers.chosen_twice.Goals as goal

-- each format has room for class 6
six_fits : (format : ℕ) → 6 ≤ top_class format
six_fits format = grind (arith, nat_tests)

chosen-fits : (b cs : List ℕ) (format : ℕ) → EachFits format (chosen b six cs)
unfolding chosen
chosen-fits b cs format = λ k d lt.
    let each : ℕ → ℕ = λ i. 6 in
    let within : k < length cs = let size : length (map each (range_with_len 0 (length cs))) ≡ length cs = length-map-range_with_len each 0 (length cs) in omega (arith, lt, size) in
    subst (λ (c : ℕ). c ≤ top_class format) (sym (get_or-map-range_with_len each 0 (length cs) k k d within (omega arith))) (six_fits format)

pub chosen-requires-clause-room : goal.chosen-requires-clause-room
chosen-requires-clause-room g c = chosen-fits _ _ _

pub chosen_by-requires-2-clause-room : goal.chosen_by-requires-2-clause-room
chosen_by-requires-2-clause-room g c = chosen-fits _ _ _
