-- What a writer of class lists knows part way through a set.
use Rattle.std.specs.Prelude.{ℕ, ◌-◌, List, filter}
use Rattle.std.specs.List.{range_with_len}
use Rattle.view_meaning.specs.Classes.{has}

-- the classes of a set from one on, in rising order
unfoldable pub members_from : List ℕ → ℕ → List ℕ
members_from set from = filter (has set) (range_with_len from (256 - from))
