-- The places of a file's variable length records and of its extended ones.
use Rattle.std.specs.Prelude.{ℕ, ◌+◌, List, map}
use Rattle.std.specs.List.{range_with_len}
use Rattle.las_vlr.specs.declared.place.VlrPlace.{VlrPlace}
use Rattle.view_meaning.specs.Layout.{vlr_at, evlr_at}
use Rattle.view_meaning.specs.Survey.{u16_at, u64_at}

-- the place of variable length record k, where the first begins at a given place
abbrev pub vlr_place : List ℕ → ℕ → ℕ → VlrPlace
vlr_place b first k = record { at = vlr_at b first k; «length» = u16_at b (vlr_at b first k + 20) }

-- the places of so many variable length records
unfoldable pub vlr_places : List ℕ → ℕ → ℕ → List VlrPlace
vlr_places b first count = map (vlr_place b first) (range_with_len 0 count)

-- the place of extended variable length record k, where the first begins at a given place
abbrev pub evlr_place : List ℕ → ℕ → ℕ → VlrPlace
evlr_place b first k = record { at = evlr_at b first k; «length» = u64_at b (evlr_at b first k + 20) }

-- the places of so many extended variable length records
unfoldable pub evlr_places : List ℕ → ℕ → ℕ → List VlrPlace
evlr_places b first count = map (evlr_place b first) (range_with_len 0 count)
