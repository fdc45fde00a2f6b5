-- What a survey's type keeps.
use Rattle.std.specs.Prelude.{◌≡◌, ℕ, ◌^◌, ◌≤◌, List, length}
use Rattle.las_header.specs.declared.header.Header.{Header}
use Rattle.las_header.specs.Header.{IsHeaderOf}
use Rattle.las_vlr.specs.declared.place.VlrPlace.{VlrPlace}
use Rattle.las_vlr.specs.Places.{vlr_places, evlr_places}
use Rattle.view_meaning.specs.Layout.{IsLaid}
use Rattle.view_meaning.specs.Survey.{header_size, vlr_count, evlrs_at, evlr_count}

-- these at most 2^30 bytes are laid out as a survey, these are its header's fields, and these the places
-- of its variable length records and of its extended ones
pub record IsKept (b : List ℕ) (h : Header) (vlrs evlrs : List VlrPlace) : Type 0 where
  pub laid : IsLaid b
  pub short : length b ≤ 2 ^ 30
  pub fields : IsHeaderOf b h
  pub vlrs_are : vlrs ≡ vlr_places b (header_size b) (vlr_count b)
  pub evlrs_are : evlrs ≡ evlr_places b (evlrs_at b) (evlr_count b)
