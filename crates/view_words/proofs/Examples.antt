-- Command lines by hand.
use Rattle.std.proofs.Common.{◌≡◌, ℕ, List, [], ◌∷◌, ◌++◌, Some, None, map, refl}
use Rattle.std.specs.Prelude.{codes}
use Rattle.std.specs.List.{range_with_len}
use Rattle.view_base.specs.Text.{number, digits}
use Rattle.class_bits.specs.ClassSet.{item_range, class_list}
use Rattle.view_text.specs.ViewWords.{kind, colouring, hides, fits, fits_filter}
use Rattle.view_words.specs.declared.row.Row.TheVariants.{Draw}
use Rattle.view_base.specs.Fitting.{misfit}
use Rattle.view_words.specs.CommandLine.{all_rows, kind_at, is_taken, badword_in, badword}

no_words : badword all_rows [] ≡ Some 0
unfolding badword
no_words = refl

an_unknown_command : badword all_rows (codes "paint" ∷ codes "a" ∷ []) ≡ Some 0
unfolding badword
an_unknown_command = refl

another_row : badword (Draw ∷ []) (codes "info" ∷ codes "a" ∷ codes "b" ∷ []) ≡ Some 0
unfolding badword
another_row = refl

a_survey_alone : badword all_rows (codes "draw" ∷ codes "a" ∷ []) ≡ Some 2
unfolding kind_at is_taken misfit badword_in badword
a_survey_alone = refl

too_many_workers : badword all_rows (codes "draw" ∷ codes "a" ∷ codes "b" ∷ codes "65" ∷ []) ≡ Some 3
unfolding number digits kind_at is_taken misfit badword_in badword
too_many_workers = refl

no_worker : badword all_rows (codes "serve" ∷ codes "a" ∷ codes "-0" ∷ codes "j" ∷ []) ≡ Some 2
unfolding number digits kind_at is_taken misfit badword_in badword
no_worker = refl

-- the first of two refused words
one_name_for_both : badword all_rows (codes "draw" ∷ codes "a" ∷ codes "a" ∷ codes "65" ∷ []) ≡ Some 2
unfolding number digits kind_at is_taken misfit badword_in badword
one_name_for_both = refl

an_empty_name : badword all_rows (codes "info" ∷ [] ∷ []) ≡ Some 1
unfolding kind_at is_taken misfit badword_in badword
an_empty_name = refl

-- `-` is read once and written once
a_dash_for_both : badword all_rows (codes "info" ∷ codes "-" ∷ codes "-" ∷ []) ≡ None
unfolding kind_at is_taken misfit badword_in badword
a_dash_for_both = refl

a_dash_read_twice : badword all_rows (codes "serve" ∷ codes "-" ∷ codes "1" ∷ codes "-" ∷ codes "-" ∷ codes "o" ∷ []) ≡ Some 4
unfolding number digits kind_at is_taken misfit badword_in badword
a_dash_read_twice = refl

a_dash_written_twice : badword all_rows (codes "serve" ∷ codes "a" ∷ codes "1" ∷ codes "-" ∷ codes "i" ∷ codes "-" ∷ []) ≡ Some 5
unfolding number digits kind_at is_taken misfit badword_in badword
a_dash_written_twice = refl

no_pair : badword all_rows (codes "serve" ∷ codes "a" ∷ codes "1" ∷ codes "j" ∷ []) ≡ Some 4
unfolding number digits kind_at is_taken misfit badword_in badword
no_pair = refl

an_in_without_its_out : badword all_rows (codes "serve" ∷ codes "a" ∷ codes "1" ∷ codes "j" ∷ codes "i1" ∷ []) ≡ Some 5
unfolding number digits kind_at is_taken misfit badword_in badword
an_in_without_its_out = refl

a_second_in_without_its_out : badword all_rows (codes "serve" ∷ codes "a" ∷ codes "1" ∷ codes "j" ∷ codes "i" ∷ codes "o" ∷ codes "p" ∷ []) ≡ Some 7
unfolding number digits kind_at is_taken misfit badword_in badword
a_second_in_without_its_out = refl

-- a refused word goes before a missing one
an_in_again : badword all_rows (codes "serve" ∷ codes "a" ∷ codes "1" ∷ codes "j" ∷ codes "i" ∷ codes "o" ∷ codes "i" ∷ []) ≡ Some 6
unfolding number digits kind_at is_taken misfit badword_in badword
an_in_again = refl

-- so many names of one letter each
abbrev letters : ℕ → List (List ℕ)
letters n = map (λ k. k ∷ []) (range_with_len 0x30 n)

sixteen_pairs : badword all_rows (codes "serve" ∷ codes "a" ∷ codes "064" ∷ codes "j" ∷ letters 32) ≡ None
unfolding number digits kind_at is_taken misfit badword_in badword
sixteen_pairs = refl

a_seventeenth_in : badword all_rows (codes "serve" ∷ codes "a" ∷ codes "064" ∷ codes "j" ∷ letters 33) ≡ Some 36
unfolding number digits kind_at is_taken misfit badword_in badword
a_seventeenth_in = refl

the_last_start : badword all_rows (codes "trial" ∷ codes "18446744073709551615" ∷ codes "8388608" ∷ codes "007" ∷ codes "t" ∷ []) ≡ None
unfolding number digits kind_at is_taken misfit badword_in badword
the_last_start = refl

too_late_a_start : badword all_rows (codes "trial" ∷ codes "18446744073709551616" ∷ []) ≡ Some 1
unfolding number digits kind_at is_taken misfit badword_in badword
too_late_a_start = refl

a_start_below_zero : badword all_rows (codes "trial" ∷ codes "-1" ∷ []) ≡ Some 1
unfolding number digits kind_at is_taken misfit badword_in badword
a_start_below_zero = refl

a_plus : badword all_rows (codes "trial" ∷ codes "0" ∷ codes "+1" ∷ []) ≡ Some 2
unfolding number digits kind_at is_taken misfit badword_in badword
a_plus = refl

too_many_records : badword all_rows (codes "trial" ∷ codes "0" ∷ codes "8388609" ∷ []) ≡ Some 2
unfolding number digits kind_at is_taken misfit badword_in badword
too_many_records = refl

-- the words of a `draw` up to its filter
abbrev drawing : List (List ℕ)
drawing =
    codes "draw" ∷ codes "a" ∷ codes "b" ∷ codes "1" ∷ codes "persp" ∷ codes "1" ∷ codes "1" ∷ codes "0" ∷ codes "0" ∷ codes "0" ∷ codes "1"
    ∷ codes "0" ∷ codes "0" ∷ codes "0" ∷ codes "1" ∷ codes "0" ∷ codes "0" ∷ codes "0" ∷ codes "1" ∷ codes "1" ∷ codes "1" ∷ codes "-0"
    ∷ codes "10" ∷ codes "rgb8" ∷ []

a_whole_draw : badword all_rows (drawing ++ codes "3,1-2" ∷ codes "hide" ∷ []) ≡ None
unfolding number digits item_range class_list kind colouring hides fits fits_filter kind_at is_taken misfit badword_in badword
a_whole_draw = refl

a_word_too_many : badword all_rows (drawing ++ codes "all" ∷ codes "show" ∷ codes "x" ∷ []) ≡ Some 26
unfolding number digits item_range class_list kind colouring hides fits fits_filter kind_at is_taken misfit badword_in badword
a_word_too_many = refl

a_word_too_few : badword all_rows (drawing ++ codes "all" ∷ []) ≡ Some 25
unfolding number digits item_range class_list kind colouring hides fits fits_filter kind_at is_taken misfit badword_in badword
a_word_too_few = refl

an_empty_view_word : badword all_rows (drawing ++ [] ∷ codes "show" ∷ []) ≡ Some 24
unfolding number digits item_range class_list kind colouring hides fits fits_filter kind_at is_taken misfit badword_in badword
an_empty_view_word = refl
