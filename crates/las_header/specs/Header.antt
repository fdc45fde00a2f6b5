-- The header's fields as numbers at their offsets.
use Rattle.std.specs.Prelude.{◌≡◌, ℕ, List}
use Rattle.las_header.specs.declared.header.Header.{Header}
use Rattle.view_meaning.specs.Survey.{u8_at, header_size, points_at, vlr_count, format_of, record_length, record_count, evlrs_at, evlr_count}

-- the fields of a header are those that a file has at their offsets
pub record IsHeaderOf (b : List ℕ) (h : Header) : Type 0 where
  pub minor : h.minor ≡ u8_at b 25
  pub size : h.size ≡ header_size b
  pub points_at : h.points_at ≡ points_at b
  pub vlrs : h.vlrs ≡ vlr_count b
  pub format : h.format ≡ format_of b
  pub bytes_a_record : h.«length» ≡ record_length b
  pub records : h.records ≡ record_count b
  pub evlrs_at : h.evlrs_at ≡ evlrs_at b
  pub evlrs : h.evlrs ≡ evlr_count b
