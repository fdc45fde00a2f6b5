-- Classes of which some are those that are picked already.
use Rattle.std.specs.Prelude.{◌≡◌, ◌⊎◌, ℕ, ◌+◌, ◌<◌, List, All, length, slice_index}
use Rattle.view_base.specs.declared.place.Point.{Point}
use Rattle.view_meaning.specs.Survey.{point_of}
use Rattle.view_meaning.specs.Classes.{changed}
use Rattle.class_pages.specs.Choosing.{Pick}

-- the class that is picked for record i of these classes
abbrev pub after_at : List ℕ → List ℕ → Pick → ℕ → ℕ
after_at b old pick i = pick (point_of b i) (slice_index old i)

-- each record's class is the one before or the one that is picked
pub record IsUnderway (b : List ℕ) (pick : Pick) (old new : List ℕ) : Type 0 where
  pub size : length new ≡ length old
  pub each : (i : ℕ) → i < length old → (slice_index new i ≡ slice_index old i) ⊎ (slice_index new i ≡ after_at b old pick i)

-- the classes of these records are those that are picked
abbrev pub IsMadeOf : List ℕ → Pick → List ℕ → List ℕ → List ℕ → Type 0
IsMadeOf b pick old new numbers = All (λ i. slice_index new i ≡ after_at b old pick i) numbers

-- for the records of these numbers the same is picked as at this point
abbrev pub ArePickedAt : List ℕ → Pick → Point → List ℕ → Type 0
ArePickedAt b pick p numbers = All (λ i. (class : ℕ) → pick p class ≡ pick (point_of b i) class) numbers

-- picking that was under way is done of these records too, and so many more classes differ from before it
pub record IsFurther (b : List ℕ) (pick : Pick) (old mid new numbers : List ℕ) (more : ℕ) : Type 0 where
  pub underway : IsUnderway b pick old new
  pub kept : (i : ℕ) → slice_index mid i ≡ after_at b old pick i → slice_index new i ≡ after_at b old pick i
  pub made : IsMadeOf b pick old new numbers
  pub count : changed old mid + more ≡ changed old new
