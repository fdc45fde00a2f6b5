-- Lists that a loop fills item by item.
use Rattle.std.proofs.Common.{◌≡◌, ◌≢◌, ℕ, ◌+◌, ◌<◌, ◌≤◌, List, ◌++◌, length, get_or, set, map, take, drop, inl, inr, refl, sym, ◌∙◌, ap, arith}
use Rattle.std.proofs.lemmas.Bool.{cases_lt}
use Rattle.std.proofs.lemmas.List.{ext_get_or, get_or-set_same, get_or-set_other, get_or-map, length-map}
use Rattle.std.proofs.lemmas.List.{map-append}
use Rattle.std.proofs.lemmas.List.FromFn.{get_or-map-range_with_len, length-map-range_with_len}
use Rattle.std.specs.List.{range_with_len}
use Rattle.std.specs.Prelude.{Bool}
use Rattle.view_meaning.specs.Survey.{u8_at, format_of, is_withheld, record_at, record_length, withheld_of}
use Rattle.view_meaning.proofs.Reading.{u8_at_part}
use Rattle.view_meaning.proofs.Rows.{range-append}

-- the first i items are those of f
abbrev pub IsFilled : {A : Type 0} → (ℕ → A) → A → ℕ → List A → Type 0
IsFilled f d i items = (k : ℕ) → k < i → get_or items k d ≡ f k

pub filled_none : {A : Type 0} (f : ℕ → A) (d : A) (items : List A) → IsFilled f d 0 items
filled_none f d items = λ k lt. absurd (omega (arith, lt))

-- one more item
pub filled_more : {A : Type 0} (f : ℕ → A) (d : A) (i : ℕ) (items : List A) (v : A) → i < length items → v ≡ f i → IsFilled f d i items → IsFilled f d (i + 1) (set items i v)
filled_more f d i items v within is h = λ k lt. elim (cases_lt k i) [
  | inl below ↦ let other : k ≢ i = omega arith in get_or-set_other items i k v d other ∙ h k below
  | inr least ↦ let same : k ≡ i = omega arith in ap (λ (k : ℕ). get_or (set items i v) k d) same ∙ get_or-set_same items i v d within ∙ is ∙ ap f (sym same)
]

-- all items of a list, each made from one of another
pub filled_map : {A B : Type 0} (g : B → A) (e : B) (d : A) (from : List B) (items : List A) (i : ℕ) → length items ≡ length from → length from ≤ i → IsFilled (λ k. g (get_or from k e)) d i items → items ≡ map g from
filled_map g e d from items i size all h =
    ext_get_or d items (map g from) (size ∙ sym (length-map from g))
    (λ k lt. let within : k < length from = omega (arith, lt, size) in h k (omega (arith, within, all)) ∙ sym (get_or-map g from k e d within))

-- all items of a list, each made from one of the numbers from a first on
pub filled_range : {A : Type 0} (f : ℕ → A) (d : A) (first n i : ℕ) (items : List A) → length items ≡ n → n ≤ i → IsFilled (λ k. f (first + k)) d i items → items ≡ map f (range_with_len first n)
filled_range f d first n i items size all h =
    ext_get_or d items (map f (range_with_len first n)) (size ∙ sym (length-map-range_with_len f first n))
    (λ k lt. let within : k < n = omega (arith, lt, size) in h k (omega (arith, within, all)) ∙ sym (get_or-map-range_with_len f first n k (first + k) d within refl))

-- what a function makes of numbers, in two parts
pub made-halves : {A : Type 0} (f : ℕ → A) (first mid half rest n : ℕ) (front back : List A) → mid ≡ first + half → half + rest ≡ n
    → front ≡ map f (range_with_len first half) → back ≡ map f (range_with_len mid rest) → front ++ back ≡ map f (range_with_len first n)
made-halves f first mid half rest n front back there whole front_is back_is =
    ap (λ l. l ++ back) front_is ∙ ap (λ l. map f (range_with_len first half) ++ l) (back_is ∙ ap (λ (m : ℕ). map f (range_with_len m rest)) there)
    ∙ sym (map-append f (range_with_len first half) (range_with_len (first + half) rest)) ∙ ap (map f) (sym (range-append first half rest) ∙ ap (range_with_len first) whole)

-- the withheld bit of a record, from its bytes
pub withheld-from_part : (b : List ℕ) (i format : ℕ) (bytes : List ℕ) (bit : Bool) → 20 ≤ record_length b → bytes ≡ take (record_length b) (drop (record_at b i) b) → format ≡ format_of b
    → bit ≡ is_withheld format (u8_at bytes 15) → bit ≡ withheld_of b i
unfolding withheld_of
withheld-from_part b i format bytes bit least taken known read =
    read ∙ ap (λ (f : ℕ). is_withheld f (u8_at bytes 15)) known ∙ ap (λ (l : List ℕ). is_withheld (format_of b) (u8_at l 15)) taken
    ∙ ap (is_withheld (format_of b)) (u8_at_part (record_at b i) (record_length b) 15 b (omega arith))
