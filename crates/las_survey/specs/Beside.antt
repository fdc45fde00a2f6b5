-- Two files that differ in the bytes of their points alone, and what they have in common.
use Rattle.std.specs.Prelude.{◌≡◌, ℕ, ◌+◌, List, length, take, drop}
use Rattle.view_meaning.specs.Survey.{minor_of, header_size, points_at, vlr_count, format_of, record_length, record_count, evlrs_at, evlr_count, record_at, class_place, points_end}

-- both have as many bytes, and the same before and after the points of the first
pub record SameBesidePoints (b c : List ℕ) : Type 0 where
  pub size : length c ≡ length b
  pub before : take (points_at b) c ≡ take (points_at b) b
  pub after : drop (points_end b) c ≡ drop (points_end b) b

-- the fields of both headers are the same
pub record SameFields (b c : List ℕ) : Type 0 where
  pub minor : minor_of c ≡ minor_of b
  pub size : header_size c ≡ header_size b
  pub points : points_at c ≡ points_at b
  pub vlrs : vlr_count c ≡ vlr_count b
  pub format : format_of c ≡ format_of b
  pub bytes_a_record : record_length c ≡ record_length b
  pub records : record_count c ≡ record_count b
  pub extended_at : evlrs_at c ≡ evlrs_at b
  pub extended : evlr_count c ≡ evlr_count b

-- where record i has its class byte
abbrev pub class_at : List ℕ → ℕ → ℕ
class_at b i = record_at b i + class_place (format_of b)
