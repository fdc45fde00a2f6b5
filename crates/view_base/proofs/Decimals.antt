-- How long the decimal digits of a number are.
use Rattle.std.proofs.Common.{ℕ, ◌<◌, ◌≤◌, ◌^◌, ℤ, length, decimal, FitsSigned, w32, arith}
use Rattle.std.specs.Fmt.{signed_decimal}
use Rattle.std.proofs.lemmas.Fmt.{length-decimal-le, length_signed_le}
use Rattle.std.proofs.lemmas.Int.{ints}

-- a number of 64 bits has at most 20 digits
pub length_decimal : (n : ℕ) → n < 2 ^ 64 → length (decimal n) ≤ 20
length_decimal n small = length-decimal-le 20 n (omega arith) (omega (arith, small)) small

-- a byte has at most 3 digits
pub length_decimal_byte : (n : ℕ) → n < 256 → length (decimal n) ≤ 3
length_decimal_byte n small = length-decimal-le 3 n (omega arith) (omega (arith, small)) (omega (arith, small))

-- a signed number of 32 bits has at most 11 digits, its sign among them
pub length_signed_decimal : (z : ℤ) → FitsSigned w32 z → length (signed_decimal z) ≤ 11
length_signed_decimal z fits = length_signed_le 10 z (grind (arith, ints)) (grind (arith, ints))
