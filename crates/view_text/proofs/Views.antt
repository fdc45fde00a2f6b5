-- What words are as a view or as a filter, by their misfit and by what they say.
use Rattle.std.proofs.Common.{◌≡◌, ℕ, ◌+◌, ℤ, Bool, Some, None, Ok, Err, List, refl}
use Rattle.std.specs.Prelude.{◌==◌}
use Rattle.view_base.specs.declared.colour.Colouring.{Colouring}
use Rattle.view_base.specs.Fitting.{word_at, misfit}
use Rattle.view_meaning.specs.Classes.{Filter}
use Rattle.class_bits.specs.ClassSet.{class_list}
use Rattle.int_camera.specs.declared.numbers.Kind.{Kind}
use Rattle.view_text.specs.declared.fault.TextFault.TheVariants.{Line}
use Rattle.view_text.specs.ViewWords.{kind, colouring, hides, fits, fits_filter, camera_numbers, filter_at, view_through, view_of, filter_of}

pub filter_at-read : (ws : List (List ℕ)) (place : ℕ) (classes : List ℕ) (hidden : Bool) → class_list (word_at ws place) ≡ Some classes → hides (word_at ws (place + 1)) ≡ Some hidden
    → record { classes = classes; hide_withheld = hidden } ≡ filter_at ws place
unfolding filter_at
filter_at-read ws place classes hidden listed said = rw (listed, said) refl

pub view_of-misfit : (ws : List (List ℕ)) (at : ℕ) → misfit fits (λ count. count == 22) ws ≡ Some at → view_of ws ≡ Err (Line at)
unfolding view_of
view_of-misfit ws at known = rw known refl

pub view_of-fitting : (ws : List (List ℕ)) (way : Kind) (n : List ℤ) (paint : Colouring) (filter : Filter) → misfit fits (λ count. count == 22) ws ≡ None → kind (word_at ws 0) ≡ Some way → n ≡ camera_numbers ws
    → colouring (word_at ws 19) ≡ Some paint → filter ≡ filter_at ws 20 → view_of ws ≡ view_through way n paint filter
unfolding view_of
view_of-fitting ws way n paint filter none is_kind numbers is_colouring is_filter = rw (none, is_kind, ← numbers, is_colouring, ← is_filter) refl

pub filter_of-misfit : (ws : List (List ℕ)) (at : ℕ) → misfit fits_filter (λ count. count == 2) ws ≡ Some at → filter_of ws ≡ Err (Line at)
unfolding filter_of
filter_of-misfit ws at known = rw known refl

pub filter_of-fitting : (ws : List (List ℕ)) (filter : Filter) → misfit fits_filter (λ count. count == 2) ws ≡ None → filter ≡ filter_at ws 0 → filter_of ws ≡ Ok filter
unfolding filter_of
filter_of-fitting ws filter none is = rw (none, ← is) refl
