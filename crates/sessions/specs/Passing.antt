-- The records of a run that pass a filter.
use Rattle.std.specs.Prelude.{◌≡◌, ℕ, ◌+◌, ◌<◌, ◌&&◌, Bool, false, not, List, length, slice_index, slice_index_or}
use Rattle.view_meaning.specs.Classes.{Filter, has}
use Rattle.view_meaning.specs.Survey.{withheld_of}

-- one mark for each class: whether a set has it
pub record AreMarks (set : List ℕ) (marks : List Bool) : Type 0 where
  pub size : length marks ≡ 256
  pub each : (c : ℕ) → c < 256 → slice_index_or marks c false ≡ has set c

-- whether class k of a run is one of the filter's
abbrev pub class_passes : Filter → List ℕ → ℕ → Bool
class_passes filter run k = has filter.classes (slice_index run k)

-- whether class k of a run is one of the filter's, and its record, of those from `first` on, is not withheld
abbrev pub record_passes : List ℕ → Filter → List ℕ → ℕ → ℕ → Bool
record_passes b filter run first k = has filter.classes (slice_index run k) && not (withheld_of b (first + k))
