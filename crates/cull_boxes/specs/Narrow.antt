-- Numbers that 64 bits hold sums of.
use Rattle.std.specs.Prelude.{◌^◌, ℤ, pos, neg_ℤ, ◌≤ℤ◌}

-- a part of a normal whose products with three coordinates sum up within 64 bits
abbrev pub IsNarrow : ℤ → Type 0
IsNarrow z = (neg_ℤ (pos (2 ^ 30)) ≤ℤ z) × (z ≤ℤ pos (2 ^ 30))
