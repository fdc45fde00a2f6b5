-- The info text of a survey: its header's fields, the box of its records, and how many of them each class has.
use Rattle.std.specs.Prelude.{ℕ, ℤ, ◌==◌, if◌then◌else◌, List, [], ◌++◌, length, slice_index, map, fold, codes, decimal, Option, Some, None}
use Rattle.std.specs.Fmt.{signed_decimal}
use Rattle.std.specs.Int.{int_min, int_max}
use Rattle.std.specs.List.{range_with_len, flat_map, count_by}
use Rattle.view_base.specs.declared.place.Point.{Point}
use Rattle.view_base.specs.declared.place.Box3.{Box3}
use Rattle.view_meaning.specs.Survey.{u8_at, header_size, vlr_count, format_of, record_length, record_count, evlr_count, point_of}
use Rattle.view_meaning.specs.Classes.{classes}

-- the least or the greatest, by int_min or int_max, of the numbers of the first n records, of one at least
unfoldable pub extreme : (ℤ → ℤ → ℤ) → (ℕ → ℤ) → ℕ → ℤ
extreme pick f n = fold pick (f 0) (map f (range_with_len 0 n))

-- the least or the greatest corner of the first n records
abbrev pub corner : (ℤ → ℤ → ℤ) → List ℕ → ℕ → Point
corner pick b n = record { x = extreme pick (λ i. (point_of b i).x) n; y = extreme pick (λ i. (point_of b i).y) n; z = extreme pick (λ i. (point_of b i).z) n }

-- the box from the least to the greatest corner of all records, where there are records
unfoldable pub area_of : List ℕ → Option Box3
area_of b = if record_count b == 0 then None else Some (record { min = corner int_min b (record_count b); max = corner int_max b (record_count b) })

-- how many records of a file each class has
unfoldable pub class_counts : List ℕ → List ℕ
class_counts b = map (λ class. count_by (λ c. c == class) (classes b [])) (range_with_len 0 256)

-- a line of a label and a number
unfoldable pub line : List ℕ → ℕ → List ℕ
line label number = label ++ decimal number ++ codes "\n"

-- the lines of the header's fields and the file's length
unfoldable pub field_lines : List ℕ → List ℕ
field_lines b =
    line (codes "LAS 1.") (u8_at b 25) ++ line (codes "header ") (header_size b) ++ line (codes "format ") (format_of b)
    ++ line (codes "length ") (record_length b) ++ line (codes "records ") (record_count b) ++ line (codes "vlrs ") (vlr_count b)
    ++ line (codes "evlrs ") (evlr_count b) ++ line (codes "bytes ") (length b)

-- X, Y and Z of a corner, each after a space
unfoldable pub corner_text : Point → List ℕ
corner_text p = codes " " ++ signed_decimal p.x ++ codes " " ++ signed_decimal p.y ++ codes " " ++ signed_decimal p.z

-- the line of a box, its least corner first, if there is one
unfoldable pub box_line : Option Box3 → List ℕ
box_line None = []
box_line (Some area) = codes "box" ++ corner_text area.min ++ corner_text area.max ++ codes "\n"

-- the line of a class and its count, where it has records
unfoldable pub class_line : ℕ → ℕ → List ℕ
class_line class count = if count == 0 then [] else codes "class " ++ decimal class ++ line (codes " ") count

-- the lines of the classes with records, rising
unfoldable pub class_lines : List ℕ → List ℕ
class_lines counts = flat_map (λ class. class_line class (slice_index counts class)) (range_with_len 0 256)

-- what a survey is, in words: its header's fields and length, the box of its records, and its classes
unfoldable pub info_text : List ℕ → List ℕ
info_text b = field_lines b ++ box_line (area_of b) ++ class_lines (class_counts b)
