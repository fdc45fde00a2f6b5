-- The value that a pixel is left with.
use Rattle.std.specs.Prelude.{ℕ, ◌-◌, ◌^◌, ◌==◌, min, List, [], ◌∷◌, if◌then◌else◌}

-- the least value paired with the pixel x, or 2^64 - 1 where there is none
abbrev pub least : List (ℕ × ℕ) → ℕ → ℕ
least [] x = 2 ^ 64 - 1
least (p ∷ ps) x = if p.0 == x then min p.1 (least ps x) else least ps x
