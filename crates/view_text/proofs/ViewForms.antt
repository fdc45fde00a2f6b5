-- What fits each place of a view and of a filter.
use Rattle.std.proofs.Common.{◌≡◌, ℕ, ◌≤◌, false, List, refl, arith}
use Rattle.std.specs.Prelude.{is_some}
use Rattle.std.proofs.lemmas.Bool.{ne_eqb, le-leb}
use Rattle.view_base.specs.Text.{number}
use Rattle.class_bits.specs.ClassSet.{class_list}
use Rattle.view_text.specs.ViewWords.{kind, colouring, hides, fits, fits_filter}

pub fits-kind : (word : List ℕ) → fits 0 word ≡ is_some (kind word)
unfolding fits
fits-kind word = refl

pub fits-number : (place : ℕ) (word : List ℕ) → 1 ≤ place → place ≤ 18 → fits place word ≡ is_some (number word)
unfolding fits
fits-number place word first last = rw (ne_eqb place 0 (omega arith), le-leb place 18 last) refl

pub fits-colouring : (word : List ℕ) → fits 19 word ≡ is_some (colouring word)
unfolding fits
fits-colouring word = refl

pub fits-classes : (word : List ℕ) → fits 20 word ≡ is_some (class_list word)
unfolding fits fits_filter
fits-classes word = refl

pub fits-withheld : (word : List ℕ) → fits 21 word ≡ is_some (hides word)
unfolding fits fits_filter
fits-withheld word = refl

pub fits-further : (word : List ℕ) → fits 22 word ≡ false
unfolding fits fits_filter
fits-further word = refl

pub fits_filter-classes : (word : List ℕ) → fits_filter 0 word ≡ is_some (class_list word)
unfolding fits_filter
fits_filter-classes word = refl

pub fits_filter-withheld : (word : List ℕ) → fits_filter 1 word ≡ is_some (hides word)
unfolding fits_filter
fits_filter-withheld word = refl

pub fits_filter-further : (word : List ℕ) → fits_filter 2 word ≡ false
unfolding fits_filter
fits_filter-further word = refl
