-- A ledger of pins as its callers see it.
use Rattle.std.specs.Prelude.{ℕ, ◌<◌, ◌==◌, Bool, List, All, sum_by, if◌then◌else◌}
use Rattle.pin_ledger.specs.declared.pins.Pinned.{Pinned}

-- the versions that have pins, and how many more versions get their first pin without memory
pub record Ledger : Type 0 where
  pub pinned : List Pinned
  pub spare : ℕ

-- whether the version is this one
abbrev pub is_of : ℕ → Pinned → Bool
is_of v at = at.version == v

-- how many pins of a version are out
unfoldable pub pins_of : List Pinned → ℕ → ℕ
pins_of pinned v = sum_by (λ (at : Pinned). if is_of v at then at.pins else 0) pinned

-- each version that is kept has a pin
unfoldable pub EachHasPin : List Pinned → Type 0
EachHasPin pinned = All (λ (at : Pinned). 0 < at.pins) pinned
