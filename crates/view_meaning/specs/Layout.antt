-- How a LAS file is laid out, and what is the first fault of one that is not (LAS 1.2, 1.3 and 1.4 R15,
-- public header block, variable length records and extended variable length records). The order of the
-- faults is this project's own. All numbers are whole numbers without bound.
use Rattle.std.specs.Prelude.{◌≡◌, ℕ, zero, suc, ◌+◌, ◌==◌, ◌&&◌, nat_le, nat_lt, nat_eq, min, map, if◌then◌else◌, Bool, List, [], ◌∷◌, ◌++◌, length, slice_index, codes, Option, Some, None}
use Rattle.std.specs.List.{starts_with, range_with_len}
use Rattle.view_base.specs.declared.fault.SurveyFault.{SurveyFault}
use Rattle.view_base.specs.declared.fault.SurveyFault.TheVariants.{Header, Vlr, Points, Evlr}
use Rattle.view_base.specs.declared.fault.HeaderFault.TheVariants.{TooShort, Signature, Version, HeaderSize, Compressed, Format, RecordLength, Offset}
use Rattle.view_meaning.specs.Survey.{u8_at, u16_at, u64_at, minor_of, header_size, points_at, vlr_count, format_of, record_length, evlrs_at, evlr_count, points_end}

-- the fault of a condition that does not hold
abbrev pub unless : Bool → SurveyFault → Option SurveyFault
unless holds fault = if holds then None else Some fault

-- the first fault, if there is one
abbrev pub first_fault : List (Option SurveyFault) → Option SurveyFault
first_fault [] = None
first_fault (None ∷ others) = first_fault others
first_fault (Some fault ∷ others) = Some fault

-- the least record length of a format, in bytes
abbrev pub least_length : ℕ → ℕ
least_length format = slice_index (20 ∷ 28 ∷ 26 ∷ 34 ∷ 57 ∷ 63 ∷ 30 ∷ 36 ∷ 38 ∷ 59 ∷ 67 ∷ []) format

-- the bytes of the public header block of LAS 1.2, 1.3 and 1.4, by the minor number
unfoldable pub block_size : ℕ → ℕ
block_size minor = if minor == 2 then 227 else if minor == 3 then 235 else 375

-- the conditions on the header, in order
unfoldable pub header_faults : List ℕ → List (Option SurveyFault)
header_faults b =
    unless (nat_le 227 (length b)) (Header (TooShort (length b)))
    ∷ unless (starts_with nat_eq b (codes "LASF")) (Header Signature)
    ∷ unless (u8_at b 24 == 1 && nat_le 2 (minor_of b) && nat_le (minor_of b) 4) (Header (Version (u8_at b 24) (minor_of b)))
    ∷ unless (nat_le (block_size (minor_of b)) (length b)) (Header (TooShort (length b)))
    ∷ unless (nat_le (block_size (minor_of b)) (header_size b)) (Header (HeaderSize (header_size b)))
    ∷ unless (nat_lt (format_of b) 128) (Header (Compressed (format_of b)))
    ∷ unless (nat_le (format_of b) 10) (Header (Format (format_of b)))
    ∷ unless (nat_le (least_length (format_of b)) (record_length b)) (Header (RecordLength (record_length b) (least_length (format_of b))))
    ∷ unless (nat_le (header_size b) (points_at b)) (Header (Offset (points_at b))) ∷ []

-- where variable length record k begins: the first at a given place, each other where the one before ends.
-- Its header has 54 bytes, with the length after the header at 20
unfoldable pub vlr_at : List ℕ → ℕ → ℕ → ℕ
vlr_at b first zero = first
vlr_at b first (suc k) = vlr_at b first k + 54 + u16_at b (vlr_at b first k + 20)

-- where extended variable length record k begins. Its header has 60 bytes
unfoldable pub evlr_at : List ℕ → ℕ → ℕ → ℕ
evlr_at b first zero = first
evlr_at b first (suc k) = evlr_at b first k + 60 + u64_at b (evlr_at b first k + 20)

-- whether variable length record k ends at an end or before, and within the file
unfoldable pub vlr_fits : List ℕ → ℕ → ℕ → ℕ → Bool
vlr_fits b first end k = nat_le (vlr_at b first (suc k)) (min end (length b))

-- the first of so many variable length records that does not fit
unfoldable pub vlr_fault : List ℕ → ℕ → ℕ → ℕ → Option SurveyFault
vlr_fault b first end count = first_fault (map (λ k. unless (vlr_fits b first end k) (Vlr k (vlr_at b first k))) (range_with_len 0 count))

-- whether extended variable length record k begins where the points end or after, and ends within the file
unfoldable pub evlr_fits : List ℕ → ℕ → ℕ → ℕ → Bool
evlr_fits b first points_end k = nat_le points_end (evlr_at b first k) && nat_le (evlr_at b first (suc k)) (length b)

-- the first of so many extended variable length records that does not fit
unfoldable pub evlr_fault : List ℕ → ℕ → ℕ → ℕ → Option SurveyFault
evlr_fault b first points_end count = first_fault (map (λ k. unless (evlr_fits b first points_end k) (Evlr k (evlr_at b first k))) (range_with_len 0 count))

-- the first fault of a file in the order of the conditions: the header, the variable length records, the
-- points, the extended variable length records. None where it is laid out
unfoldable pub fault : List ℕ → Option SurveyFault
fault b = first_fault (header_faults b ++
    vlr_fault b (header_size b) (points_at b) (vlr_count b)
    ∷ unless (nat_le (points_end b) (length b)) (Points (points_end b) (length b))
    ∷ evlr_fault b (evlrs_at b) (points_end b) (evlr_count b) ∷ [])

-- a file that is laid out as a survey
unfoldable pub IsLaid : List ℕ → Type 0
IsLaid b = fault b ≡ None
