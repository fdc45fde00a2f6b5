-- A chooser that picks class 6.
use Rattle.std.specs.Prelude.{ℕ}
use Rattle.class_pages.specs.Choosing.{Pick}

-- class 6 at each point
abbrev pub six : Pick
six p class = 6
