-- Every record passes a filter of all classes that hides nothing.
use Rattle.std.proofs.Common.{◌≡◌, ℕ, ◌<◌, List, length, get_or, Bool, true, false, ◌&&◌, not, refl, ◌∙◌, ap, arith, slice_index}
use Rattle.std.proofs.lemmas.List.FromFn.{get_or-range_with_len}
use Rattle.std.proofs.lemmas.List.Folds.{list_all_at}
use Rattle.std.specs.List.{list_all, range_with_len}
use Rattle.view_meaning.specs.Classes.{Filter, has, all_classes, passes}
use Rattle.view_meaning.specs.Survey.{withheld_of}

each_of_256 : list_all (has all_classes) (range_with_len 0 256) ≡ true
unfolding has
each_of_256 = refl

by_cases : (b : Bool) → (b ≡ false → ⊥) → b ≡ true
by_cases true h = refl
by_cases false h = absurd (h refl)

-- the set of all classes has each class
pub has-all_classes : (class : ℕ) → class < 256 → has all_classes class ≡ true
has-all_classes class small = by_cases (has all_classes class) (λ no.
    let here : get_or (range_with_len 0 256) class 0 ≡ class = get_or-range_with_len 0 256 class 0 small ∙ omega arith in
    let size : class < length (range_with_len 0 256) = small in
    cc (each_of_256, list_all_at (has all_classes) (range_with_len 0 256) class 0 size (ap (has all_classes) here ∙ no)))

-- every record passes, where nothing is asked for
pub passes-all : (b cs : List ℕ) (filter : Filter) (i : ℕ) → filter.classes ≡ all_classes → filter.hide_withheld ≡ false → slice_index cs i < 256 → passes b cs filter i ≡ true
unfolding passes
passes-all b cs filter i all none small =
    let there : has filter.classes (slice_index cs i) ≡ true = ap (λ (set : List ℕ). has set (slice_index cs i)) all ∙ has-all_classes (slice_index cs i) small in
    ap (λ passes. passes && not (filter.hide_withheld && withheld_of b i)) there ∙ ap (λ hides. not (hides && withheld_of b i)) none
