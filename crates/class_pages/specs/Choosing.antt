-- Classes that are picked for records, by their points and their classes.
use Rattle.std.specs.Prelude.{◌≡◌, ℕ, ◌+◌, ◌<◌, ◌==◌, true, if◌then◌else◌, List, map, length, slice_index, slice_set}
use Rattle.std.specs.List.{range_with_len}
use Rattle.view_base.specs.declared.place.Box3.{Box3}
use Rattle.view_base.specs.declared.place.Point.{Point}
use Rattle.view_meaning.specs.Survey.{point_of, record_count}
use Rattle.view_meaning.specs.Classes.{Edit, changed, class_after, in_box}

-- the class that is picked for a point and a class
abbrev pub Pick : Type 0
Pick = Point → ℕ → ℕ

-- what an edit picks: the class after it
abbrev pub by_edit : Edit → Pick
by_edit edit p class = class_after p class edit

-- at the points of a box each class is picked for itself
abbrev pub Leaves : Pick → Box3 → Type 0
Leaves pick area = (p : Point) (class : ℕ) → in_box area p ≡ true → pick p class ≡ class

-- at all points of a box the same is picked for a class
abbrev pub IsEven : Pick → Box3 → Type 0
IsEven pick area = (p q : Point) (class : ℕ) → in_box area p ≡ true → in_box area q ≡ true → pick p class ≡ pick q class

-- picking once more changes nothing
abbrev pub IsSettled : Pick → Type 0
IsSettled pick = (p : Point) (class : ℕ) → pick p (pick p class) ≡ pick p class

-- the classes that are picked for all records
unfoldable pub chosen : List ℕ → Pick → List ℕ → List ℕ
chosen b pick cs = map (λ i. pick (point_of b i) (slice_index cs i)) (range_with_len 0 (length cs))

-- the new classes are those picked, one for each record, and so many differ
pub record IsChosen (b : List ℕ) (pick : Pick) (old new : List ℕ) (differ : ℕ) : Type 0 where
  pub classes : new ≡ chosen b pick old
  pub count : differ ≡ changed old new
  pub size : length new ≡ record_count b

-- the class at a place is the one picked there for a point, and so many classes differ
pub record IsPicked (pick : Pick) (p : Point) (place : ℕ) (old new : List ℕ) (differ : ℕ) : Type 0 where
  pub made : new ≡ slice_set old place (pick p (slice_index old place))
  pub count : differ ≡ (if pick p (slice_index old place) == slice_index old place then 0 else 1)

-- the classes of some records from one on, before and after
pub record IsAfter (b : List ℕ) (first : ℕ) (pick : Pick) (old new : List ℕ) : Type 0 where
  pub size : length new ≡ length old
  pub each : (i : ℕ) → i < length old → slice_index new i ≡ pick (point_of b (first + i)) (slice_index old i)

-- of the classes of records from one on, each of the first n is picked for itself
abbrev pub IsSame : List ℕ → ℕ → Pick → ℕ → List ℕ → Type 0
IsSame b first pick n cs = (i : ℕ) → i < n → pick (point_of b (first + i)) (slice_index cs i) ≡ slice_index cs i
