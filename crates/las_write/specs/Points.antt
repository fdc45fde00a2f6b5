-- The point records of a file, and a run of them with other classes.
use Rattle.std.specs.Prelude.{ℕ, ◌≤◌, List, length, take, drop, slice_index, slice_set}
use Rattle.std.specs.List.{flat_map, range_with_len}
use Rattle.view_meaning.specs.Survey.{format_of, record_count, record_length, record_at, class_place, points_end}
use Rattle.view_meaning.specs.Classes.{with_class}

-- all point records are within the file, they are few enough for numbers of 32 bits, their format is known,
-- and each is as long as the least record of any format
pub record HasPoints (b : List ℕ) : Type 0 where
  pub known : format_of b ≤ 10
  pub least : 20 ≤ record_length b
  pub whole : points_end b ≤ length b
  pub few : record_count b ≤ 53687091

-- the bytes of record i
unfoldable pub record_bytes : List ℕ → ℕ → List ℕ
record_bytes b i = take (record_length b) (drop (record_at b i) b)

-- the bytes of a record with another class: the class bits of its class byte change, and nothing else
abbrev pub with_class_byte : ℕ → ℕ → List ℕ → List ℕ
with_class_byte format class bytes = slice_set bytes (class_place format) (with_class format (slice_index bytes (class_place format)) class)

-- the bytes of record i with the class that a list of classes has for it
unfoldable pub saved_record : List ℕ → List ℕ → ℕ → List ℕ
saved_record b cs i = with_class_byte (format_of b) (slice_index cs i) (record_bytes b i)

-- so many records from one on, each with its class
abbrev pub saved_records : List ℕ → List ℕ → ℕ → ℕ → List ℕ
saved_records b cs first count = flat_map (saved_record b cs) (range_with_len first count)
