-- Plots that wait to be made.
use Rattle.std.specs.Prelude.{ℕ, ◌++◌, List}
use Rattle.min_frame.specs.Meaning.{Seated}

-- how many pixels the frame has, and the plots as pixel and value, in order
pub record Waiting : Type 0 where
  pub pixels : ℕ
  pub plots : List (ℕ × ℕ)

-- a seat with more plots
abbrev pub plotting : Seated → List (ℕ × ℕ) → Seated
plotting seat pairs = record { frame = seat.frame; plots = seat.plots ++ pairs; claims = seat.claims; ends = seat.ends; root = seat.root; out = seat.out }

-- a seat once the plots that wait are made
abbrev pub drawn : Seated → Waiting → Seated
drawn seat waiting = plotting seat waiting.plots
