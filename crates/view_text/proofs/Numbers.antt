-- The camera numbers in the words of a view.
use Rattle.std.proofs.Common.{◌≡◌, ◌≢◌, ℕ, ◌+◌, ◌<◌, ℤ, pos, List, length, get_or, set, inl, inr, refl, sym, ◌∙◌, ap, arith}
use Rattle.std.proofs.lemmas.Bool.{cases_lt}
use Rattle.std.proofs.lemmas.List.{ext_get_or, get_or-set_same, get_or-set_other}
use Rattle.std.proofs.lemmas.List.FromFn.{get_or-map-range_with_len, length-map-range_with_len}
use Rattle.std.specs.Prelude.{unwrap_or}
use Rattle.view_base.specs.Text.{number}
use Rattle.view_base.specs.Fitting.{word_at}
use Rattle.view_text.specs.ViewWords.{camera_numbers}

-- the number that the word at a place is
abbrev pub number_at : List (List ℕ) → ℕ → ℤ
number_at ws place = unwrap_or (number (word_at ws place)) (pos 0)

-- these are the first n numbers
abbrev pub Reads : List (List ℕ) → ℕ → List ℤ → Type 0
Reads ws n ns = (k : ℕ) → k < n → get_or ns k (pos 0) ≡ number_at ws (1 + k)

-- one more number
pub reads_more : (ws : List (List ℕ)) (i : ℕ) (ns : List ℤ) (z : ℤ) → i < length ns → z ≡ number_at ws (1 + i) → Reads ws i ns → Reads ws (i + 1) (set ns i z)
reads_more ws i ns z within is so_far = λ k lt. elim (cases_lt k i) [
  | inl below ↦ let other : k ≢ i = omega arith in get_or-set_other ns i k z (pos 0) other ∙ so_far k below
  | inr least ↦ let same : k ≡ i = omega arith in
      ap (λ (k : ℕ). get_or (set ns i z) k (pos 0)) same ∙ get_or-set_same ns i z (pos 0) within ∙ is ∙ ap (λ (k : ℕ). number_at ws (1 + k)) (sym same)
]

-- all eighteen numbers
pub reads_all : (ws : List (List ℕ)) (ns : List ℤ) → length ns ≡ 18 → Reads ws 18 ns → ns ≡ camera_numbers ws
unfolding camera_numbers
reads_all ws ns size reads =
    ext_get_or (pos 0) ns (camera_numbers ws) (size ∙ sym (length-map-range_with_len (number_at ws) 1 18))
    (λ k within. reads k (omega (arith, within, size)) ∙ sym (get_or-map-range_with_len (number_at ws) 1 18 k (1 + k) (pos 0) (omega (arith, within, size)) refl))
