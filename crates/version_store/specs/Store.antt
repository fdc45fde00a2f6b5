-- The store of the versions of a survey's classes.
use Rattle.std.specs.Prelude.{◌≡◌, ℕ, ◌≤◌, ◌==◌, Bool, List, [], ◌∷◌, ◌++◌, length, map, take, All, sum_by}
use Rattle.std.specs.Arc.{arc_value}
use Rattle.view_meaning.specs.Survey.{record_count, format_of}
use Rattle.view_meaning.specs.Classes.{Edit, classes}
use Rattle.class_pages.specs.Fitting.{EachFits}
use Rattle.version_store.specs.declared.history.What.{What}
use Rattle.version_store.specs.declared.history.Entry.{Entry}
use Rattle.version_store.specs.declared.held.Held.{Held}
use Rattle.version_store.specs.Histories.{journal, held, IsLegal}

-- the bytes of the survey, and what happened to the versions
pub record Stored : Type 0 where
  pub bytes : List ℕ
  pub history : List Entry

-- who pinned it, the version, and its classes
pub record Pinned : Type 0 where
  pub who : ℕ
  pub version : ℕ
  pub classes : List ℕ

-- the store after one more entry of a caller
abbrev pub with_entry : Stored → ℕ → What → Stored
with_entry s who what = record { bytes = s.bytes; history = s.history ++ (record { who = who; what = what }) ∷ [] }

-- the classes of the newest version
abbrev pub newest : Stored → List ℕ
newest s = classes s.bytes (journal s.history)

-- a caller's pin of the newest version, where these edits were published
abbrev pub newest_pinned : ℕ → List ℕ → List Edit → Pinned
newest_pinned who b edits = record { who = who; version = length edits; classes = classes b edits }

-- whether it is this version
abbrev pub is_version : ℕ → Held → Bool
is_version v it = it.version == v

-- a held version with its pins
abbrev pub shown : Held → ℕ × ℕ
shown it = (it.version, it.pins)

-- a version of a journal: its classes are those after so many edits, one for each record, and the format has room for each
pub record IsVersion (b : List ℕ) (edits : List Edit) (it : Held) : Type 0 where
  pub known : it.version ≤ length edits
  pub classes : arc_value it.classes ≡ classes b (take it.version edits)
  pub size : length (arc_value it.classes) ≡ record_count b
  pub top : EachFits (format_of b) (arc_value it.classes)

-- what a store keeps: a legal history, the versions that it holds, how many pins are out, and room for an entry of each
pub record IsKept (b : List ℕ) (h : List Entry) (helds : List Held) (out spare : ℕ) : Type 0 where
  pub legal : IsLegal h
  pub versions : map shown helds ≡ held h
  pub each : All (IsVersion b (journal h)) helds
  pub pins : sum_by (λ (it : Held). it.pins) helds ≡ out
  pub made : out ≤ length h
  pub room : out ≤ spare
