-- The words of a frame before its first step.
use Rattle.std.specs.Prelude.{◌≡◌, ℕ, ◌+◌, ◌-◌, ◌^◌, ◌<◌, List, length, slice_index}

-- each pixel's word is the one on which nothing was plotted, and the claim word behind them is 0
abbrev pub AreEmpty : List ℕ → Type 0
AreEmpty words = ((x : ℕ) → x + 1 < length words → slice_index words x ≡ 2 ^ 64 - 1) × ((x : ℕ) → x + 1 ≡ length words → slice_index words x ≡ 0)
