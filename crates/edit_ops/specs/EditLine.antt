-- The edit line, `edit X0 Y0 Z0 X1 Y1 Z1 FROM TO`, and the canonical one of an edit: single spaces, no leading zeros,
-- and the classes by their runs.
use Rattle.std.specs.Prelude.{ℕ, ◌+◌, ◌==◌, ◌&&◌, nat_le, ℤ, pos, negsuc, int_le, Bool, false, List, [], ◌∷◌, ◌++◌, map, codes, decimal, Option, Some, None, is_some, unwrap_or, Result, Ok, Err, if◌then◌else◌}
use Rattle.std.specs.Fmt.{signed_decimal}
use Rattle.std.specs.List.{join_with_byte}
use Rattle.std.specs.Option.{option_and_then, option_map_or}
use Rattle.std.specs.Str.{bytes_eq}
use Rattle.view_base.specs.declared.place.Point.{Point}
use Rattle.view_base.specs.Text.{number, digits}
use Rattle.view_base.specs.Fitting.{word_at, misfit}
use Rattle.view_meaning.specs.Classes as meaning
use Rattle.view_meaning.specs.Classes.{all_classes}
use Rattle.class_bits.specs.ClassSet.{members, class_list}
use Rattle.edit_ops.specs.declared.fault.EditFault.{EditFault}
use Rattle.edit_ops.specs.declared.fault.EditFault.TheVariants.{Line, ClassRange}

-- a whole number that a coordinate of 32 bits can be
abbrev pub in_32_bits : ℤ → Option ℤ
in_32_bits z = if int_le (negsuc 2147483647) z && int_le z (pos 2147483647) then Some z else None

-- the coordinate that a word is, or none
unfoldable pub coordinate : List ℕ → Option ℤ
coordinate word = option_and_then in_32_bits (number word)

-- whether a word fits this place of an edit line: `edit`, six coordinates, a class list, digits
unfoldable pub fits : ℕ → List ℕ → Bool
fits place word =
    if place == 0 then bytes_eq word (codes "edit")
    else if nat_le place 6 then is_some (coordinate word)
    else if place == 7 then is_some (class_list word)
    else if place == 8 then is_some (digits word) else false

-- an edit line has nine words
abbrev pub is_whole : ℕ → Bool
is_whole count = count == 9

-- the coordinate that the word at a place is
abbrev pub coordinate_at : List (List ℕ) → ℕ → ℤ
coordinate_at ws place = unwrap_or (coordinate (word_at ws place)) (pos 0)

-- the point whose coordinates are the words from a place on
abbrev pub point_at : List (List ℕ) → ℕ → Point
point_at ws place = record { x = coordinate_at ws place; y = coordinate_at ws (place + 1); z = coordinate_at ws (place + 2) }

-- the edit of the words of a line to this class, or the fault that the class is above the format's greatest
abbrev pub ranged_edit : List (List ℕ) → ℕ → ℕ → Result meaning.Edit EditFault
ranged_edit ws format to =
    if nat_le to (meaning.top_class format)
    then Ok (record { area = record { min = point_at ws 1; max = point_at ws 4 }; from = unwrap_or (class_list (word_at ws 7)) all_classes; to = to })
    else Err (ClassRange (pos to))

-- the edit of a line by its words for a point format, or why it is none
unfoldable pub edit_of : List (List ℕ) → ℕ → Result meaning.Edit EditFault
edit_of ws format =
    option_map_or (λ at. Err (Line at)) (misfit fits is_whole ws) (ranged_edit ws format (unwrap_or (digits (word_at ws 8)) 0))

-- the runs with one class more before them, which lengthens the first run where it is its neighbour
abbrev pub onto_run : ℕ → List (ℕ × ℕ) → List (ℕ × ℕ)
onto_run class [] = (class, class) ∷ []
onto_run class (run ∷ others) = if run.0 == class + 1 then (class, run.1) ∷ others else (class, class) ∷ run ∷ others

-- the longest runs of neighbours among rising classes, each by its first and its last
abbrev pub runs : List ℕ → List (ℕ × ℕ)
runs [] = []
runs (class ∷ others) = onto_run class (runs others)

-- a run as `a`, or as `a-b` where it has more classes than one
abbrev pub run_text : ℕ × ℕ → List ℕ
run_text run = if run.0 == run.1 then decimal run.0 else decimal run.0 ++ 45 ∷ decimal run.1

-- a set of classes as `all`, or as its runs with commas between them
unfoldable pub classes_text : List ℕ → List ℕ
classes_text set = if bytes_eq set all_classes then codes "all" else join_with_byte 44 (map run_text (runs (members set)))

-- the canonical line of an edit
unfoldable pub canonical : meaning.Edit → List ℕ
canonical e =
    join_with_byte 32 (codes "edit" ∷ signed_decimal e.area.min.x ∷ signed_decimal e.area.min.y ∷ signed_decimal e.area.min.z
    ∷ signed_decimal e.area.max.x ∷ signed_decimal e.area.max.y ∷ signed_decimal e.area.max.z ∷ classes_text e.from ∷ decimal e.to ∷ [])
