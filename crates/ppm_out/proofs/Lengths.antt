-- The length of a picture's header.
use Rattle.std.proofs.Common.{◌≡◌, ℕ, ◌+◌, ◌≤◌, ◌∷◌, [], List, ◌++◌, length, length-append, decimal, ◌∙◌, ap, arith}
use Rattle.std.proofs.lemmas.Fmt.{length-decimal-le}
use Rattle.view_meaning.specs.Picture.{ppm_header}

five : (a b d e f : List ℕ) → length (a ++ b ++ d ++ e ++ f) ≡ length a + length b + length d + length e + length f
five a b d e f =
    length-append (a ++ b ++ d ++ e) f
    ∙ ap (λ (k : ℕ). k + length f) (length-append (a ++ b ++ d) e
    ∙ ap (λ (k : ℕ). k + length e) (length-append (a ++ b) d ∙ ap (λ (k : ℕ). k + length d) (length-append a b)))

-- a side of a picture has at most four digits
pub length_decimal_side : (n : ℕ) → n ≤ 4096 → length (decimal n) ≤ 4
length_decimal_side n small = length-decimal-le 4 n (omega arith) (omega (arith, small)) (omega (arith, small))

-- the length of a header
pub length-ppm_header : (width height : ℕ) → length (ppm_header width height) ≡ 9 + length (decimal width) + length (decimal height)
unfolding ppm_header
length-ppm_header width height =
    five (80 ∷ 54 ∷ 10 ∷ []) (decimal width) (32 ∷ []) (decimal height) (10 ∷ 50 ∷ 53 ∷ 53 ∷ 10 ∷ []) ∙ omega arith
