-- Pins that callers have.
use Rattle.std.specs.Prelude.{ℕ, ◌+◌, ◌≤◌, ◌==◌, ◌&&◌, List, count_by}
use Rattle.version_store.specs.declared.history.Entry.{Entry}
use Rattle.version_store.specs.Histories.{numbered, entries_by, is_pin, is_unpin, how_many}
use Rattle.version_store.specs.Store.{Pinned}

-- each of these pins was taken by its caller and not given back
abbrev pub IsOwed : List Entry → List Pinned → Type 0
IsOwed h pins = (who v : ℕ) → how_many (is_unpin v) (entries_by who (numbered 0 h)) + count_by (λ (pin : Pinned). pin.who == who && pin.version == v) pins ≤ how_many (is_pin v) (entries_by who (numbered 0 h))
