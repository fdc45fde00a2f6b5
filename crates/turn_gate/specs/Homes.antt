-- The slots of a table.
use Rattle.std.specs.Prelude.{List}
use mathlib.Core.Option.{Option}

-- for each slot its value, where it is at home
abbrev pub Homes : Type 0 → Type 0
Homes S = List (Option S)
