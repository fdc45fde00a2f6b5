-- What follows from what a survey's type keeps, for the bytes that its callers see.
use Rattle.std.proofs.Common.{◌≡◌, ℕ, ◌≤◌, List, subst, arith}
use Rattle.las_header.specs.declared.header.Header.{Header}
use Rattle.las_vlr.specs.declared.place.VlrPlace.{VlrPlace}
use Rattle.view_meaning.specs.Survey.{record_count}
use Rattle.las_survey.specs.Kept.{IsKept}
use Rattle.las_survey.proofs.Laid.{IsSound, laid-sound, few_records}

pub kept-sound : (b inside : List ℕ) (h : Header) (vlrs evlrs : List VlrPlace) → IsKept inside h vlrs evlrs → inside ≡ b → IsSound b
kept-sound b inside h vlrs evlrs kept same = subst IsSound same (laid-sound inside kept.laid)

pub kept-few : (inside : List ℕ) (h : Header) (vlrs evlrs : List VlrPlace) → IsKept inside h vlrs evlrs → h.records ≤ 53687091
kept-few inside h vlrs evlrs kept =
    let few = few_records inside (laid-sound inside kept.laid) kept.short in
    let records : h.records ≡ record_count inside = kept.fields.records in
    omega arith
