-- The classes after one more edit.
use Rattle.std.specs.Prelude.{◌≡◌, ℕ, List, [], ◌∷◌, ◌++◌, length}
use Rattle.view_meaning.specs.Survey.{format_of, record_count}
use Rattle.view_meaning.specs.Classes as meaning
use Rattle.class_pages.specs.Choosing.{by_edit, chosen}
use Rattle.class_pages.specs.Fitting.{EachFits}

-- the classes of all records after one more edit
abbrev pub after_edit : List ℕ → List ℕ → meaning.Edit → List ℕ
after_edit b cs edit = chosen b (by_edit edit) cs

-- the new classes are those after one more edit, and so many differ
pub record IsEdited (b : List ℕ) (edit : meaning.Edit) (old new : List ℕ) (differ : ℕ) : Type 0 where
  pub classes : new ≡ after_edit b old edit
  pub edits : (edits : List meaning.Edit) → old ≡ meaning.classes b edits → new ≡ meaning.classes b (edits ++ edit ∷ [])
  pub count : differ ≡ meaning.changed old new
  pub size : length new ≡ record_count b
  pub top : EachFits (format_of b) old → EachFits (format_of b) new
