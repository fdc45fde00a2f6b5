-- The parts of a command line that is read as those of a `draw`.
use Rattle.std.specs.Prelude.{◌≡◌, ℕ, ◌<◌, Option, Some, None, Result, Err}
use Rattle.view_meaning.specs.Picture.{View}
use Rattle.view_text.specs.declared.fault.TextFault.{TextFault}
use Rattle.view_text.specs.declared.fault.TextFault.TheVariants.{Line}
use Rattle.view_words.specs.declared.row.Row.{Row}
use Rattle.view_words.specs.declared.row.Row.TheVariants.{Draw}

-- a place is none of those of a view, which stands in a `draw` from place 4 on
abbrev pub IsBeforeView : Row → ℕ → Type 0
IsBeforeView row place = row ≡ Draw → place < 4

-- the refused word of what was read as a view, or none
abbrev pub refused_at : Result View TextFault → Option ℕ
refused_at (Err (Line at)) = Some at
refused_at _ = None
