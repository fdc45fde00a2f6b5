-- The survey that is made of a number. Its numbers are drawn by a linear congruential generator modulo 2^64.
use Rattle.std.specs.Prelude.{ℕ, zero, suc, ◌+◌, ◌*◌, ◌-◌, ◌/◌, ◌%◌, ◌^◌, List, [], ◌∷◌, ◌++◌, replicate, codes, Option, Some, None}
use Rattle.std.specs.List.{range_with_len, flat_map}
use Rattle.std.specs.Int.{to_le_bytes, w16, w32, w64}
use Rattle.survey_make.specs.declared.draws.TheConstants.{MULTIPLIER, INCREMENT}
use Rattle.view_meaning.specs.Survey.{class_place, rgb_place}
use Rattle.view_meaning.specs.Layout.{least_length}

-- the state after so many draws, where it was `start` at first
unfoldable pub state : ℕ → ℕ → ℕ
state start zero = start
state start (suc k) = (MULTIPLIER * state start k + INCREMENT) % 2 ^ 64

-- draw k, from 0: the upper half of the state after it
unfoldable pub draw : ℕ → ℕ → ℕ
draw start k = state start (k + 1) / 2 ^ 32

-- so many bytes 0
abbrev pub zeros : ℕ → List ℕ
zeros n = replicate n 0

-- the first 14 bytes of a record: X, Y, Z and intensity
unfoldable pub place_bytes : ℕ → ℕ → ℕ → ℕ → List ℕ
place_bytes x y z intensity = to_le_bytes w32 x ++ to_le_bytes w32 y ++ to_le_bytes w32 z ++ to_le_bytes w16 intensity

-- what stands in a record from a place behind its class on: red, green and blue where it has them, and all else 0
unfoldable pub behind_class : ℕ → Option ℕ → ℕ → ℕ → ℕ → ℕ → List ℕ
behind_class at None end red green blue = zeros (end - at)
behind_class at (Some place) end red green blue =
    zeros (place - at) ++ to_le_bytes w16 red ++ to_le_bytes w16 green ++ to_le_bytes w16 blue ++ zeros (end - (place + 6))

-- what stands behind the class of a record of a format, to its least length
abbrev pub colour_part : ℕ → ℕ → ℕ → ℕ → List ℕ
colour_part format red green blue = behind_class (class_place format + 1) (rgb_place format) (least_length format) red green blue

-- the record of a format with this X, Y, Z, intensity and class: its red is the intensity, its green X and its
-- blue Y, and all else is 0
unfoldable pub record_bytes : ℕ → ℕ → ℕ → ℕ → ℕ → ℕ → List ℕ
record_bytes format x y z intensity class =
    place_bytes x y z intensity ++ zeros (class_place format - 14) ++ (class ∷ [])
    ++ colour_part format intensity x y

-- record i: five draws give its X, Y, Z, intensity and class
unfoldable pub made_record : ℕ → ℕ → ℕ → List ℕ
made_record start format i = record_bytes format
    (draw start (5 * i) % 65536) (draw start (5 * i + 1) % 65536) (draw start (5 * i + 2) % 4096)
    (draw start (5 * i + 3) % 65536) (draw start (5 * i + 4) % 32)

-- the public header block of LAS 1.4 before so many records of a format, of its least length (LAS 1.4 R15): the
-- signature and the version, the sizes and the format, and the record length and count. All else is 0
unfoldable pub made_header : ℕ → ℕ → List ℕ
made_header format records =
    (codes "LASF" ++ zeros 20 ++ (1 ∷ 4 ∷ []) ++ zeros 68)
    ++ (to_le_bytes w16 375 ++ to_le_bytes w32 375 ++ zeros 4 ++ (format ∷ []))
    ++ (to_le_bytes w16 (least_length format) ++ zeros 140 ++ to_le_bytes w64 records ++ zeros 120)

-- the survey of so many records of a format that is made of a number
unfoldable pub made : ℕ → ℕ → ℕ → List ℕ
made start records format = made_header format records ++ flat_map (made_record start format) (range_with_len 0 records)
