-- Coordinates: the numbers of 32 bits.
use Rattle.std.proofs.Common.{◌≡◌, ℕ, ℤ, pos, negsuc, Some, None, Result, Ok, Err, List, refl, sym, ap, inl, inr, ◌∙◌, arith, FitsSigned}
use Rattle.std.specs.Int.{w32}
use Rattle.std.specs.Result.{OkIff, result_ok}
use Rattle.std.proofs.lemmas.Bool.{le-leb, lt-leb, cases_lt}
use Rattle.view_base.specs.Text.{number}
use Rattle.edit_ops.specs.EditLine.{in_32_bits, coordinate}

pub coordinate-none : (word : List ℕ) → number word ≡ None → coordinate word ≡ None
unfolding coordinate
coordinate-none word none = rw none refl

pub coordinate-number : (word : List ℕ) (z : ℤ) → number word ≡ Some z → coordinate word ≡ in_32_bits z
unfolding coordinate
coordinate-number word z some = rw some refl

-- a number that fits 32 bits is a coordinate, and another is none
pub in_32_bits-fits : (z : ℤ) → FitsSigned w32 z → in_32_bits z ≡ Some z
in_32_bits-fits (pos n) h = rw (le-leb n 2147483647 (omega (arith, h.sfits))) refl
in_32_bits-fits (negsuc n) h = rw (le-leb n 2147483647 (omega (arith, h.sfits))) refl

in_32_bits-other : (z : ℤ) → ¬ (FitsSigned w32 z) → in_32_bits z ≡ None
in_32_bits-other (pos n) h =
    elim (cases_lt n 2147483648) [ inl low ↦ absurd (h (record { sfits = low })) | inr high ↦ rw (lt-leb n 2147483647 (omega arith)) refl ]
in_32_bits-other (negsuc n) h =
    elim (cases_lt n 2147483648) [ inl low ↦ absurd (h (record { sfits = low })) | inr high ↦ rw (lt-leb n 2147483647 (omega arith)) refl ]

pub in_32_bits-converted : {E : Type 0} (z : ℤ) (r : Result ℤ E) → OkIff r (FitsSigned w32 z) z → result_ok r ≡ in_32_bits z
in_32_bits-converted z (Ok y) h = ap Some h.1 ∙ sym (in_32_bits-fits z h.0)
in_32_bits-converted z (Err e) h = sym (in_32_bits-other z h)
