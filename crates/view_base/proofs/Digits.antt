-- Digits and their value, one byte more at a time.
use Rattle.std.proofs.Common.{◌≡◌, ℕ, ◌+◌, ◌-◌, ◌*◌, ◌^◌, ◌<◌, ◌≤◌, true, false, eqb, ltb, leb, ◌&&◌, Some, None, List, [], ◌∷◌, length, get_or, take, drop, pos, neg_ℤ, ◌≢◌, refl, arith, rules}
use Rattle.std.specs.Char.{is_ascii_digit}
use Rattle.std.specs.List.{list_all}
use Rattle.std.specs.Option.{option_map}
use Rattle.std.specs.Str.Parse.{digits_value}
use Rattle.std.proofs.lemmas.Bool.{lt-ltb, le-leb, lt-leb, le-ltb, and_right, and_parts, leb-true, eqb-false, ne_eqb}
use Rattle.std.proofs.lemmas.Int.Digits.{digits_value_more}
use Rattle.std.proofs.lemmas.List.{length-take}
use Rattle.std.proofs.lemmas.Str.{digit_value_digit}
use Rattle.std.proofs.lemmas.Str.Parse.{IsNumeralModel, numerals_by_value, digits_value_short}
use Rattle.view_base.specs.Text.{digits, number}

-- decimal digits and their value, as std's lemmas take them
pub decimal_digits : IsNumeralModel (λ ds. list_all is_ascii_digit ds ≡ true) (digits_value 10)
decimal_digits = numerals_by_value _ (search rules)

pub digits_value-below : (text : List ℕ) (k : ℕ) → list_all is_ascii_digit text ≡ true → length text ≤ k → digits_value 10 text < 10 ^ k
digits_value-below text k all short = digits_value_short decimal_digits text k all short

pub range-from_digit : (c : ℕ) → is_ascii_digit c ≡ true → (48 ≤ c) × (c ≤ 57)
range-from_digit c h =
    let both = and_parts (leb 48 c) (leb c 57) h in
    (leb-true 48 c both.0, leb-true c 57 both.1)

pub digits_value-one_more : (text : List ℕ) (i : ℕ) → i < length text → is_ascii_digit (get_or text i 0) ≡ true → digits_value 10 (take i text) * 10 + (get_or text i 0 - 48) ≡ digits_value 10 (take (i + 1) text)
digits_value-one_more text i inside digit =
    let range = range-from_digit (get_or text i 0) digit in
    omega (arith, range.0, range.1, digits_value_more 10 text i inside, digit_value_digit (get_or text i 0) range)

pub digits_value-below_20 : (text : List ℕ) (i : ℕ) → list_all is_ascii_digit (take i text) ≡ true → length text ≤ 20 → digits_value 10 (take i text) < 10 ^ 20
digits_value-below_20 text i all short = digits_value-below (take i text) 20 all (omega (arith, length-take i text))

pub digits-some : (text : List ℕ) → list_all is_ascii_digit text ≡ true → 0 < length text → length text ≤ 20 → digits text ≡ Some (digits_value 10 text)
unfolding digits
digits-some text all some short = rw (all, lt-ltb _ _ some, le-leb _ _ short) refl

pub digits-empty : (text : List ℕ) → length text ≡ 0 → digits text ≡ None
unfolding digits
digits-empty text none = rw (le-ltb 0 (length text) (omega arith), and_right (list_all is_ascii_digit text) false refl) refl

pub digits-long : (text : List ℕ) → 20 < length text → digits text ≡ None
unfolding digits
digits-long text long = rw (lt-leb (length text) 20 long, and_right (list_all is_ascii_digit text && ltb 0 (length text)) false refl) refl

pub digits-other : (text : List ℕ) → list_all is_ascii_digit text ≡ false → digits text ≡ None
unfolding digits
digits-other text other = rw other refl

-- a length that is_empty answers false of
pub some_from_test : (n : ℕ) → eqb n 0 ≡ false → 0 < n
some_from_test n h = let apart = eqb-false n 0 h in omega arith

pub number-minus : (word : List ℕ) → 0 < length word → get_or word 0 0 ≡ 45 → number word ≡ option_map (λ n. neg_ℤ (pos n)) (digits (drop 1 word))
unfolding number
number-minus [] some minus = absurd (omega arith)
number-minus (c ∷ cs) some minus = rw minus refl

pub number-plain : (word : List ℕ) → 0 < length word → get_or word 0 0 ≢ 45 → number word ≡ option_map (λ n. pos n) (digits word)
unfolding number
number-plain [] some plain = absurd (omega arith)
number-plain (c ∷ cs) some plain = rw (ne_eqb c 45 plain) refl

pub number-empty : (word : List ℕ) → length word ≡ 0 → number word ≡ None
unfolding number
number-empty [] none = refl
number-empty (c ∷ cs) none = absurd (omega arith)
