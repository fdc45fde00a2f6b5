-- Numbers as text, and read again.
use Rattle.std.proofs.Common.{◌≡◌, ℕ, ℤ, zero, suc, pos, negsuc, ◌<◌, ◌≤◌, ◌^◌, Bool, true, false, Some, List, ◌∷◌, length, get_or, refl, ap, ◌∙◌, arith, decimal, FitsSigned}
use Rattle.std.specs.Char.{is_ascii_digit}
use Rattle.std.specs.Fmt.{signed_decimal}
use Rattle.std.specs.Int.{w32}
use Rattle.std.specs.List.{All, list_all}
use Rattle.std.proofs.lemmas.Bool.{ne_eqb}
use Rattle.std.proofs.lemmas.Fmt.{digits_decimal, digits_value-decimal, decimal_nonempty, length-decimal-le}
use Rattle.std.proofs.lemmas.List.Sums.{AllPass-from_list_all}
use Rattle.view_base.specs.Text.{is_blank, digits, number}
use Rattle.view_base.proofs.Digits.{decimal_digits, digits-some, number-minus, number-plain, range-from_digit}
use Rattle.edit_ops.specs.EditLine.{coordinate}
use Rattle.edit_ops.proofs.Coordinates.{coordinate-number, in_32_bits-fits}

pub all_digits : (n : ℕ) → n < 2 ^ 64 → list_all is_ascii_digit (decimal n) ≡ true
all_digits n small = digits_decimal decimal_digits n small

-- each byte of a decimal number is a digit
pub digit_at : (n k d : ℕ) → n < 2 ^ 64 → k < length (decimal n) → (48 ≤ get_or (decimal n) k d) × (get_or (decimal n) k d ≤ 57)
digit_at n k d small inside = range-from_digit (get_or (decimal n) k d) (AllPass-from_list_all is_ascii_digit (decimal n) (all_digits n small) k d inside)

-- the digits of a number are read as it
pub digits-decimal : (n : ℕ) → n < 2 ^ 64 → digits (decimal n) ≡ Some n
digits-decimal n small =
    digits-some (decimal n) (all_digits n small) (decimal_nonempty n small) (length-decimal-le 20 n (omega arith) (omega arith) small) ∙ ap Some (digits_value-decimal decimal_digits n small)

pub number-signed_decimal : (z : ℤ) → FitsSigned w32 z → number (signed_decimal z) ≡ Some z
number-signed_decimal (pos n) fits =
    let small : n < 2 ^ 64 = omega (arith, fits.sfits) in
    let first = digit_at n 0 0 small (decimal_nonempty n small) in
    number-plain (decimal n) (decimal_nonempty n small) (λ e. omega (arith, first.0)) ∙ rw (digits-decimal n small) refl
number-signed_decimal (negsuc n) fits =
    let small : suc n < 2 ^ 64 = omega (arith, fits.sfits) in
    number-minus (45 ∷ decimal (suc n)) (omega arith) refl ∙ rw (digits-decimal (suc n) small) refl

pub coordinate-signed_decimal : (z : ℤ) → FitsSigned w32 z → coordinate (signed_decimal z) ≡ Some z
coordinate-signed_decimal z fits = coordinate-number (signed_decimal z) z (number-signed_decimal z fits) ∙ in_32_bits-fits z fits

-- a digit is no blank, comma or dash
pub digit_clear : (c : ℕ) → 48 ≤ c → c ≤ 57 → is_blank c ≡ false
digit_clear c low high = rw (ne_eqb c 32 (λ e. omega arith), ne_eqb c 9 (λ e. omega arith)) refl

pub decimal-clear : (n : ℕ) → n < 2 ^ 64 → All (λ c. is_blank c ≡ false) (decimal n)
decimal-clear n small k d inside = let digit = digit_at n k d small inside in digit_clear _ digit.0 digit.1

-- one more byte that fails a test
pub All-cons : (p : ℕ → Bool) (c : ℕ) (cs : List ℕ) → p c ≡ false → All (λ c. p c ≡ false) cs → All (λ c. p c ≡ false) (c ∷ cs)
All-cons p c cs here more zero d inside = here
All-cons p c cs here more (suc k) d inside = more k d (omega arith)

pub signed_decimal-clear : (z : ℤ) → FitsSigned w32 z → All (λ c. is_blank c ≡ false) (signed_decimal z)
signed_decimal-clear (pos n) fits = decimal-clear n (omega (arith, fits.sfits))
signed_decimal-clear (negsuc n) fits = All-cons is_blank 45 (decimal (suc n)) refl (decimal-clear (suc n) (omega (arith, fits.sfits)))

pub signed_decimal-some : (z : ℤ) → FitsSigned w32 z → 0 < length (signed_decimal z)
signed_decimal-some (pos n) fits = decimal_nonempty n (omega (arith, fits.sfits))
signed_decimal-some (negsuc n) fits = omega arith
