-- Which classes a set has, by the bits of its words.
use Rattle.std.proofs.Common.{◌≡◌, ℕ, zero, suc, ◌+◌, ◌-◌, ◌*◌, ◌/◌, ◌%◌, ◌^◌, ◌<◌, ◌≤◌, Bool, true, false, ◌||◌, ◌&&◌, cond, eqb, leb, List, length, get_or, set, refl, sym, ap, ◌∙◌, inl, inr, arith, bit_or, get_or-set_same, get_or-set_other, zero-add}
use Rattle.std.specs.Int.{bit_at, w64}
use Rattle.std.proofs.lemmas.Bool.{cases_Bool, cases_eq, eq-eqb, ne_eqb, or_right, and_from, le-leb, cases_lt, true≢false, false≢true}
use Rattle.std.proofs.lemmas.List.{get_or_past, length-set, ext_get_or}
use Rattle.std.proofs.lemmas.Nat.Bits.{bit_at-zero, bit_at_ones, bit_at_set_same, bit_at_set_other, bit_at-lt, same_from_bits_below, bit_at_cat_low, bit_at_cat_high, bit_at_above}
use Rattle.std.proofs.lemmas.Nat.{or_lt}
use Rattle.std.proofs.Math.Nat.{le_refl, sub_self, pow-suc}
use Rattle.std.specs.List.{range_with_len}
use Rattle.std.proofs.lemmas.List.FromFn.{get_or-range_with_len, length-range_with_len}
use Rattle.std.proofs.lemmas.List.Sums.{get_or-le-sum_by, length-filter}
use Rattle.view_meaning.specs.Classes.{has, all_classes}
use Rattle.class_bits.specs.ClassSet.{no_classes, members, bits_of, set_of}
use Rattle.class_bits.specs.Kept.{IsClassSet}

-- the bit of a class in a set
pub has-bit : (set : List ℕ) (c : ℕ) → has set c ≡ eqb (bit_at (get_or set (c / 64) 0) (c % 64)) 1
unfolding has
has-bit set c = refl

none_at : (k : ℕ) → get_or no_classes k 0 ≡ 0
none_at zero = refl
none_at (suc zero) = refl
none_at (suc (suc zero)) = refl
none_at (suc (suc (suc zero))) = refl
none_at (suc (suc (suc (suc k)))) = refl

ones_at : (k : ℕ) → k < 4 → get_or all_classes k 0 ≡ 2 ^ 64 - 1
ones_at zero h = refl
ones_at (suc zero) h = refl
ones_at (suc (suc zero)) h = refl
ones_at (suc (suc (suc zero))) h = refl
ones_at (suc (suc (suc (suc k)))) h = absurd (omega arith)

pub has-no_classes : (c : ℕ) → has no_classes c ≡ false
has-no_classes c = rw (has-bit, none_at, bit_at-zero) refl

pub has-all_classes : (c : ℕ) → c < 256 → has all_classes c ≡ true
has-all_classes c below =
    let word : c / 64 < 4 = omega arith in
    let bit : c % 64 < 64 = omega arith in
    rw (has-bit, ones_at, bit_at_ones) refl

or_none : (b : Bool) → (b || false) ≡ b
or_none true = refl
or_none false = refl

-- a word with one more bit
abbrev with_bit : ℕ → ℕ → ℕ
with_bit word k = bit_or word (1 * 2 ^ k % 2 ^ 64)

-- a set with the bit of one more class
pub has-set_or : (words : List ℕ) (class c : ℕ) → length words ≡ 4 → class < 256 → has (set words (class / 64) (bit_or (get_or words (class / 64) 0) (1 * 2 ^ (class % 64) % 2 ^ 64))) c ≡ (has words c || eqb c class)
has-set_or words class c four below =
    let word = get_or words (class / 64) 0 in
    let bit : class % 64 < 64 = omega arith in
    let place : class / 64 < length words = omega arith in
    let there : get_or (set words (class / 64) (with_bit word (class % 64))) (class / 64) 0 ≡ with_bit word (class % 64) = get_or-set_same words (class / 64) _ 0 place in
    elim (cases_eq (c / 64) (class / 64)) [
      | inl same ↦ elim (cases_eq (c % 64) (class % 64)) [
        | inl here ↦
            let is : c ≡ class = omega arith in
            has-bit _ c ∙ rw (same, here, there, bit_at_set_same w64 word (class % 64) bit) (sym (or_right _ _ (eq-eqb c class is)))
        | inr apart ↦
            let other : c ≡ class → ⊥ = λ e. apart (ap (λ n. n % 64) e) in
            has-bit _ c ∙ rw (same, there, bit_at_set_other w64 word (class % 64) bit (c % 64) apart, ne_eqb c class other, or_none, has-bit words c, same) refl
      ]
      | inr other ↦
          let apart : c ≡ class → ⊥ = λ e. other (ap (λ n. n / 64) e) in
          has-bit _ c ∙ rw (get_or-set_other words (class / 64) (c / 64) (with_bit word (class % 64)) 0 other, ne_eqb c class apart, or_none) (sym (has-bit words c))
    ]

-- a set with that bit is four words as before
pub IsClassSet-set_or : (words : List ℕ) (class : ℕ) → IsClassSet words → class < 256 → IsClassSet (set words (class / 64) (bit_or (get_or words (class / 64) 0) (1 * 2 ^ (class % 64) % 2 ^ 64)))
IsClassSet-set_or words class s below =
    let added = with_bit (get_or words (class / 64) 0) (class % 64) in
    let place : class / 64 < length words = omega (arith, s.four) in
    record {
      four = length-set words (class / 64) added ∙ s.four;
      fits = λ k. elim (cases_eq k (class / 64)) [
        | inl here ↦
            rw (here, get_or-set_same words (class / 64) added 0 place) (or_lt 64 (get_or words (class / 64) 0) (1 * 2 ^ (class % 64) % 2 ^ 64) (s.fits (class / 64)) (omega arith))
        | inr apart ↦ rw (get_or-set_other words (class / 64) k added 0 apart) (s.fits k)
      ];
    }

pub IsClassSet-no_classes : IsClassSet no_classes
IsClassSet-no_classes = record { four = refl; fits = λ k. rw none_at (omega arith) }

pub IsClassSet-all_classes : IsClassSet all_classes
IsClassSet-all_classes =
    record {
      four = refl;
      fits = λ k. elim (cases_lt k 4) [ inl low ↦ rw ones_at (omega arith) | inr high ↦ rw (get_or_past all_classes k 0 high) (omega arith) ];
    }

bits_same : (x y : ℕ) → x < 2 → y < 2 → eqb x 1 ≡ eqb y 1 → x ≡ y
bits_same zero zero _ _ _ = refl
bits_same zero (suc zero) _ _ e = absurd (false≢true e)
bits_same (suc zero) zero _ _ e = absurd (true≢false e)
bits_same (suc zero) (suc zero) _ _ _ = refl
bits_same (suc (suc x)) y h _ _ = absurd (omega arith)
bits_same x (suc (suc y)) _ h _ = absurd (omega arith)

-- two sets with the same classes are the same four words
pub same_sets : (a b : List ℕ) → IsClassSet a → IsClassSet b → ((c : ℕ) → c < 256 → has a c ≡ has b c) → a ≡ b
same_sets a b s t same =
    ext_get_or 0 a b (s.four ∙ sym t.four) (λ i low.
    same_from_bits_below 64 (get_or a i 0) (get_or b i 0) (s.fits i) (t.fits i) (λ j inside.
    let word : (64 * i + j) / 64 ≡ i = omega arith in
    let place : (64 * i + j) % 64 ≡ j = omega arith in
    let both : eqb (bit_at (get_or a i 0) j) 1 ≡ eqb (bit_at (get_or b i 0) j) 1 =
    rw (word, place) at (sym (has-bit a (64 * i + j)) ∙ same (64 * i + j) (omega (arith, s.four)) ∙ has-bit b (64 * i + j)) in
    bits_same _ _ (bit_at-lt (get_or a i 0) j) (bit_at-lt (get_or b i 0) j) both))

-- one more place: the bits so far, and one more bit where it passes
bits_of-yes : (passes : ℕ → Bool) (n : ℕ) → passes n ≡ true → bits_of passes (suc n) ≡ 1 * 2 ^ n + bits_of passes n
unfolding bits_of
bits_of-yes passes n there = rw there (omega arith)

bits_of-no : (passes : ℕ → Bool) (n : ℕ) → passes n ≡ false → bits_of passes (suc n) ≡ bits_of passes n
unfolding bits_of
bits_of-no passes n apart = rw apart (omega arith)

bits_of-below : (passes : ℕ → Bool) (n : ℕ) → bits_of passes n < 2 ^ n
unfolding bits_of
bits_of-below passes zero = omega arith
bits_of-below passes (suc n) =
    elim (cases_Bool (passes n)) [
      | inl there ↦ omega (arith, bits_of-yes passes n there, bits_of-below passes n, pow-suc 2 n)
      | inr apart ↦ omega (arith, bits_of-no passes n apart, bits_of-below passes n, pow-suc 2 n)
    ]

bit_at-bits_of : (passes : ℕ → Bool) (n j : ℕ) → j < n → eqb (bit_at (bits_of passes n) j) 1 ≡ passes j
bit_at-bits_of passes zero j inside = absurd (omega arith)
bit_at-bits_of passes (suc n) j inside =
    let lower = bits_of passes n in
    elim (cases_Bool (passes n)) [
      | inl here ↦ elim (cases_eq j n) [
        | inl last ↦ rw (last, bits_of-yes passes n here, bit_at_cat_high 1 n lower n (bits_of-below passes n) (le_refl n), sub_self, here) refl
        | inr before ↦ rw (bits_of-yes passes n here, bit_at_cat_low 1 n lower j (omega arith)) (bit_at-bits_of passes n j (omega arith))
      ]
      | inr apart ↦ elim (cases_eq j n) [
        | inl last ↦ rw (last, bits_of-no passes n apart, bit_at_above lower n n (bits_of-below passes n) (le_refl n), apart) refl
        | inr before ↦ rw (bits_of-no passes n apart) (bit_at-bits_of passes n j (omega arith))
      ]
    ]

word_of : (passes : ℕ → Bool) (k : ℕ) → k < 4 → get_or (set_of passes) k 0 ≡ bits_of (λ j. passes (64 * k + j)) 64
unfolding set_of
word_of passes zero low = refl
word_of passes (suc zero) low = refl
word_of passes (suc (suc zero)) low = refl
word_of passes (suc (suc (suc zero))) low = refl
word_of passes (suc (suc (suc (suc k)))) low = absurd (omega arith)

length-set_of : (passes : ℕ → Bool) → length (set_of passes) ≡ 4
unfolding set_of
length-set_of passes = refl

pub IsClassSet-set_of : (passes : ℕ → Bool) → IsClassSet (set_of passes)
IsClassSet-set_of passes =
    record {
      four = length-set_of passes;
      fits = λ k. elim (cases_lt k 4) [
        | inl low ↦ rw (word_of passes k low) (bits_of-below (λ j. passes (64 * k + j)) 64)
        | inr high ↦ rw (get_or_past (set_of passes) k 0 (omega (arith, length-set_of passes))) (omega arith)
      ];
    }

-- the set of the classes that pass a test has just those
pub has-set_of : (passes : ℕ → Bool) (c : ℕ) → c < 256 → has (set_of passes) c ≡ passes c
has-set_of passes c below =
    let whole : 64 * (c / 64) + c % 64 ≡ c = omega arith in
    has-bit (set_of passes) c ∙ rw (word_of passes (c / 64) (omega arith), bit_at-bits_of (λ j. passes (64 * (c / 64) + j)) 64 (c % 64) (omega arith), whole) refl

-- a set with a class has members
pub members-some : (set : List ℕ) (c : ℕ) → c < 256 → has set c ≡ true → 0 < length (members set)
unfolding members
members-some set c below there =
    let all = range_with_len 0 256 in
    let counted = get_or-le-sum_by (λ x. cond (has set x) 1 0) all c 0 (omega (arith, length-range_with_len 0 256)) in
    let place : get_or all c 0 ≡ c = get_or-range_with_len 0 256 c 0 below ∙ zero-add c in
    let one : ◌≡◌ {A = ℕ} (cond (has set (get_or all c 0)) 1 0) 1 = rw (place, there) refl in
    omega (arith, length-filter (has set) all, one, counted)

-- a set into which a range was put has members
pub members-added : (old new : List ℕ) (first last : ℕ) → first ≤ last → first < 256 → ((c : ℕ) → c < 256 → has new c ≡ (has old c || (leb first c && leb c last))) → 0 < length (members new)
members-added old new first last rises below added =
    members-some new first below (added first below ∙ or_right (has old first) _ (and_from _ _ (le-leb first first (le_refl first)) (le-leb first last rises)))
