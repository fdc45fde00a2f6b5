-- Classes, the edits that change them, the filters that read them, and the files that keep them.
use Rattle.std.specs.Prelude.{ℕ, ◌+◌, ◌-◌, ◌*◌, ◌/◌, ◌%◌, ◌^◌, ◌==◌, ◌&&◌, not, nat_le, nat_lt, if◌then◌else◌, Bool, List, [], ◌∷◌, length, map, fold, count_by, slice_index}
use Rattle.std.specs.List.{range_with_len}
use Rattle.view_base.specs.declared.place.Point.{Point}
use Rattle.view_base.specs.declared.place.Box3.{Box3}
use Rattle.view_meaning.specs.Survey.{u8_at, points_at, points_end, record_length, record_count, format_of, point_of, class_place, class_byte, withheld_of}
use lib.Signed.{le_z}

-- the greatest class that a format has room for
abbrev pub top_class : ℕ → ℕ
top_class format = if nat_le format 5 then 31 else 255

-- the class in a class byte: its lower five bits in formats 0 to 5, the whole byte in 6 to 10
abbrev pub class_of : ℕ → ℕ → ℕ
class_of format byte = if nat_le format 5 then byte % 32 else byte

-- the class byte with another class and its other bits as they were
abbrev pub with_class : ℕ → ℕ → ℕ → ℕ
with_class format byte class = if nat_le format 5 then byte / 32 * 32 + class else class

-- whether a set of classes, four words of 64 bits, has a class: bit c mod 64 of word c / 64
unfoldable pub has : List ℕ → ℕ → Bool
has set class = slice_index set (class / 64) / 2 ^ (class % 64) % 2 == 1

-- the set of all classes
abbrev pub all_classes : List ℕ
all_classes = (2 ^ 64 - 1) ∷ (2 ^ 64 - 1) ∷ (2 ^ 64 - 1) ∷ (2 ^ 64 - 1) ∷ []

-- what a view shows and a count counts: a set of classes, and whether withheld records are hidden
pub record Filter : Type 0 where
  pub classes : List ℕ
  pub hide_withheld : Bool

-- a reclassification: in this box, records of these classes get that class
pub record Edit : Type 0 where
  pub area : Box3
  pub from : List ℕ
  pub to : ℕ

-- whether a point lies in a box, its corners included
abbrev pub in_box : Box3 → Point → Bool
in_box area p = le_z area.min.x p.x && le_z p.x area.max.x && le_z area.min.y p.y && le_z p.y area.max.y && le_z area.min.z p.z && le_z p.z area.max.z

-- the class after one more edit, which changes it where the point lies in the edit's box and the class is one of its
-- classes
abbrev pub class_after : Point → ℕ → Edit → ℕ
class_after p class e = if in_box e.area p && has e.from class then e.to else class

-- the class of record i after a list of edits
unfoldable pub class_at : List ℕ → List Edit → ℕ → ℕ
class_at b edits i = fold (class_after (point_of b i)) (class_of (format_of b) (class_byte b i)) edits

-- the classes of all records after a list of edits
unfoldable pub classes : List ℕ → List Edit → List ℕ
classes b edits = map (class_at b edits) (range_with_len 0 (record_count b))

-- whether record i passes a filter under these classes
unfoldable pub passes : List ℕ → List ℕ → Filter → ℕ → Bool
passes b cs filter i = has filter.classes (slice_index cs i) && not (filter.hide_withheld && withheld_of b i)

-- how many records pass a filter under these classes
unfoldable pub passing : List ℕ → List ℕ → Filter → ℕ
passing b cs filter = count_by (passes b cs filter) (range_with_len 0 (record_count b))

-- at how many places two lists of classes differ
unfoldable pub changed : List ℕ → List ℕ → ℕ
changed old new = count_by (λ i. not (slice_index old i == slice_index new i)) (range_with_len 0 (length old))

-- whether the byte at a place of a file is the class byte of a record
unfoldable pub is_class_byte : List ℕ → ℕ → Bool
is_class_byte b at = nat_le (points_at b) at && nat_lt at (points_end b) && (at - points_at b) % record_length b == class_place (format_of b)

-- the byte at a place of a saved file: of a class byte the class bits are those of its record's class, and every
-- other bit is as read
unfoldable pub saved_byte : List ℕ → List ℕ → ℕ → ℕ
saved_byte b cs at = if is_class_byte b at then with_class (format_of b) (u8_at b at) (slice_index cs ((at - points_at b) / record_length b)) else u8_at b at

-- the file with these classes, which is as long as the one that was read
unfoldable pub saved : List ℕ → List ℕ → List ℕ
saved b cs = map (saved_byte b cs) (range_with_len 0 (length b))
