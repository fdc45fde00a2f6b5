-- A shared store as its callers see it, and what a call makes of a pass.
use Rattle.std.specs.Prelude.{◌≡◌, ℕ, ◌-◌, List, [], ◌∷◌, ◌++◌, length, take}
use Rattle.std.specs.Arc.{arc_value}
use mathlib.Core.List.{IsPrefix}
use Rattle.atomic_table.specs.Seated.{TableId}
use Rattle.turn_gate.specs.Meaning.{Passed, IsSettled}
use Rattle.view_meaning.specs.Classes as meaning
use Rattle.view_meaning.specs.Survey.{record_count, format_of}
use Rattle.class_pages.specs.Fitting.{EachFits}
use Rattle.version_store.specs.declared.ahead.Ahead.{Ahead}
use Rattle.version_store.specs.declared.history.What.{What}
use Rattle.version_store.specs.declared.history.Entry.{Entry}
use Rattle.version_store.specs.Histories.{IsLegal}

-- which gate the passes are of, and the bytes of the survey
pub record SharedStore : Type 0 where
  pub name : TableId
  pub bytes : List ℕ

-- the number of the caller that made an entry
abbrev pub maker : Entry → ℕ
maker entry = entry.who

-- what a pass has seen is a legal history, in which its own entries stand once and in order
abbrev pub IsOwn : Passed Entry → Type 0
IsOwn pass = IsSettled IsLegal maker pass

-- at how many places the classes after these edits differ from those after all but the last
abbrev pub changed_by_last : List ℕ → List meaning.Edit → ℕ
changed_by_last b edits = meaning.changed (meaning.classes b (take (length edits - 1) edits)) (meaning.classes b edits)

-- a call made this entry: what its pass had seen is followed by entries of others and by this one
pub record MakesEntry {E : Type 0} (entry : E) (old new : Passed E) : Type 0 where
  pub others : List E
  pub seen : new.seen ≡ (old.seen ++ others) ++ entry ∷ []
  pub pass : new ≡ record old { seen = new.seen; mine = old.mine ++ entry ∷ [] }

-- a call made one entry, by which its caller did this to the versions
abbrev pub MakesOne : What → Passed Entry → Passed Entry → Type 0
MakesOne what old new = MakesEntry (record { who = old.who; what = what }) old new

-- a call made no entry: what its pass had seen is followed by entries of others
pub record MakesNone {E : Type 0} (old new : Passed E) : Type 0 where
  pub seen : IsPrefix old.seen new.seen
  pub pass : new ≡ record old { seen = new.seen }

-- an edit that was worked out before its turn: the version that it changes is that of these edits, and what it makes of it are these classes, one for each record, with room in the format for each, and so many are other than before
pub record IsAhead (b : List ℕ) (edits : List meaning.Edit) (edit : meaning.Edit) (ahead : Ahead) : Type 0 where
  pub from : ahead.from ≡ length edits
  pub classes : arc_value ahead.classes ≡ meaning.classes b (edits ++ edit ∷ [])
  pub size : length (arc_value ahead.classes) ≡ record_count b
  pub top : EachFits (format_of b) (arc_value ahead.classes)
  pub count : ahead.count ≡ meaning.changed (meaning.classes b edits) (meaning.classes b (edits ++ edit ∷ []))

-- what was worked out before its turn holds if the version that it changes is still the newest
abbrev pub IsAheadIfNewest : List ℕ → List meaning.Edit → meaning.Edit → Ahead → Type 0
IsAheadIfNewest b edits edit ahead = length edits ≡ ahead.from → IsAhead b edits edit ahead

-- what was worked out of the version with that number and these classes
abbrev pub IsAheadOf : List ℕ → ℕ → List ℕ → meaning.Edit → Ahead → Type 0
IsAheadOf b from classes edit ahead = (edits : List meaning.Edit) → from ≡ length edits → classes ≡ meaning.classes b edits → IsAhead b edits edit ahead
