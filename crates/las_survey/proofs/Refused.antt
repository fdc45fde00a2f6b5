-- The fault that a load answers for the first condition that a file does not meet.
use Rattle.std.proofs.Common.{◌≡◌, ℕ, ◌+◌, ◌*◌, List, ap, ◌∙◌, Option, Some, Result}
use Rattle.std.specs.Prelude.{IsErrOf, IsErrAnd}
use Rattle.view_base.specs.declared.fault.HeaderFault.{HeaderFault}
use Rattle.las_header.specs.declared.header.Header.{Header}
use Rattle.las_header.specs.Header.{IsHeaderOf}
use Rattle.las_vlr.specs.declared.vlrs.VlrFault.{VlrFault}
use Rattle.las_vlr.specs.declared.vlrs.VlrFault.TheVariants as vlr
use Rattle.las_vlr.specs.declared.evlrs.EvlrFault.{EvlrFault}
use Rattle.las_vlr.specs.declared.evlrs.EvlrFault.TheVariants as evlr
use Rattle.las_vlr.specs.Fault.{IsVlrFault, IsEvlrFault}
use Rattle.view_base.specs.declared.fault.SurveyFault.{SurveyFault}
use Rattle.view_base.specs.declared.fault.SurveyFault.TheVariants as survey
use Rattle.las_survey.specs.declared.loading.LoadFault.{LoadFault}
use Rattle.las_survey.specs.declared.loading.LoadFault.TheVariants.{Survey}
use Rattle.las_survey.specs.Refusal.{of_header, of_vlr, of_evlr}
use Rattle.las_vlr.specs.declared.place.VlrPlace.{VlrPlace}
use Rattle.las_vlr.specs.Places.{vlr_places, evlr_places}
use Rattle.view_meaning.specs.Layout.{vlr_fault, evlr_fault}
use Rattle.view_meaning.specs.Survey.{header_size, points_at, vlr_count, evlrs_at, evlr_count, points_end}

pub refused-header : {T : Type 0} (result : Result T LoadFault) (f : HeaderFault) (told : Option SurveyFault) (fault : SurveyFault) → told ≡ Some (survey.Header f)
    → IsErrAnd result (λ refusal. refusal ≡ of_header f) → IsErrOf result (Survey fault) → told ≡ Some fault
refused-header result f told fault found gives is =
    let g : Survey fault ≡ of_header f = rw is at gives in
    let same : survey.Header f ≡ fault = cc g in
    found ∙ ap (λ (x : SurveyFault). Some x) same

pub refused-vlr : {T : Type 0} (result : Result T LoadFault) (f : VlrFault) (told : Option SurveyFault) (fault : SurveyFault) → IsVlrFault f told
    → IsErrAnd result (λ refusal. refusal ≡ of_vlr f) → IsErrOf result (Survey fault) → told ≡ Some fault
refused-vlr result (vlr.Vlr k at) told fault found gives is =
    let g : Survey fault ≡ Survey (survey.Vlr k at) = rw is at gives in
    let same : survey.Vlr k at ≡ fault = cc g in
    found ∙ ap (λ (x : SurveyFault). Some x) same
refused-vlr result vlr.Memory told fault found gives is = absurd (let g : Survey fault ≡ of_vlr vlr.Memory = rw is at gives in cc g)

pub refused-evlr : {T : Type 0} (result : Result T LoadFault) (f : EvlrFault) (told : Option SurveyFault) (fault : SurveyFault) → IsEvlrFault f told
    → IsErrAnd result (λ refusal. refusal ≡ of_evlr f) → IsErrOf result (Survey fault) → told ≡ Some fault
refused-evlr result (evlr.Evlr k at) told fault found gives is =
    let g : Survey fault ≡ Survey (survey.Evlr k at) = rw is at gives in
    let same : survey.Evlr k at ≡ fault = cc g in
    found ∙ ap (λ (x : SurveyFault). Some x) same
refused-evlr result evlr.Memory told fault found gives is = absurd (let g : Survey fault ≡ of_evlr evlr.Memory = rw is at gives in cc g)

-- what a walk of a header's fields tells is what the file's fields tell
pub vlr_fault-fields : (b : List ℕ) (h : Header) (first end : ℕ) (told : Option SurveyFault) → IsHeaderOf b h → first ≡ h.size → end ≡ h.points_at
    → vlr_fault b first end h.vlrs ≡ told → vlr_fault b (header_size b) (points_at b) (vlr_count b) ≡ told
vlr_fault-fields b h first end told fields first_is end_is walked =
    let size = fields.size in let offset = fields.points_at in let count = fields.vlrs in cc

-- where the points of a header's fields end
pub points_end-fields : (b : List ℕ) (h : Header) (need : ℕ) → IsHeaderOf b h → need ≡ h.points_at + h.records * h.«length» → need ≡ points_end b
unfolding points_end
points_end-fields b h need fields need_is =
    let offset = fields.points_at in let count = fields.records in let size = fields.bytes_a_record in cc

pub evlr_fault-fields : (b : List ℕ) (h : Header) (need : ℕ) (told : Option SurveyFault) → IsHeaderOf b h → need ≡ h.points_at + h.records * h.«length»
    → evlr_fault b h.evlrs_at need h.evlrs ≡ told → evlr_fault b (evlrs_at b) (points_end b) (evlr_count b) ≡ told
evlr_fault-fields b h need told fields need_is walked =
    let end : need ≡ points_end b = points_end-fields b h need fields need_is in
    let first = fields.evlrs_at in let count = fields.evlrs in cc

-- the places that a walk of a header's fields gives are those of the file's fields
pub vlr_places-fields : (b : List ℕ) (h : Header) (first : ℕ) (places : List VlrPlace) → IsHeaderOf b h → first ≡ h.size → places ≡ vlr_places b first h.vlrs
    → places ≡ vlr_places b (header_size b) (vlr_count b)
vlr_places-fields b h first places fields first_is given = let size = fields.size in let count = fields.vlrs in cc

pub evlr_places-fields : (b : List ℕ) (h : Header) (places : List VlrPlace) → IsHeaderOf b h → places ≡ evlr_places b h.evlrs_at h.evlrs
    → places ≡ evlr_places b (evlrs_at b) (evlr_count b)
evlr_places-fields b h places fields given = let first = fields.evlrs_at in let count = fields.evlrs in cc
