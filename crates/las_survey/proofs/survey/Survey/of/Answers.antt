use Rattle.std.proofs.Common.{arith, ◌≡◌, ◌≤◌, ◌<◌, length, List, ℕ, sym, subst, Some, ap, ◌∙◌, ◌^◌}
use Rattle.view_meaning.specs.Layout.{fault}
use Rattle.view_meaning.specs.Survey.{points_end}
use Rattle.las_survey.specs.Kept.{IsKept}
use Rattle.view_base.specs.declared.fault.SurveyFault.{SurveyFault}
use Rattle.view_base.specs.declared.fault.SurveyFault.TheVariants.{Points}
use Rattle.las_survey.proofs.Laid.{fault-header, fault-vlr, fault-points, fault-evlr, laid}
use Rattle.las_survey.proofs.Refused.{refused-header, refused-vlr, refused-evlr, vlr_fault-fields, points_end-fields, evlr_fault-fields, vlr_places-fields, evlr_places-fields}
use Rattle.las_survey.proofs.survey.Survey.of.Goals as goal

pub returns-in_err-header-clause-survey : goal.returns-in_err-header-clause-survey
returns-in_err-header-clause-survey c = λ found is.
    rw (← c.as_slice-all.ensures)
    (fault-header _ found (refused-header c.from_residual.result _ _ found c.in_err-header.ensures.fault c.from_residual.ensures.1 is))

pub returns-in_err-vlrs-clause-survey : goal.returns-in_err-vlrs-clause-survey
returns-in_err-vlrs-clause-survey c = λ found is.
    rw (← c.as_slice-all.ensures)
    (fault-vlr _ found c.in_ok-header.ensures.met
    (vlr_fault-fields _ c.in_ok-header.header _ _ _ c.in_ok-header.ensures.fields c.from-first.ensures c.from.ensures
    (refused-vlr c.from_residual-in_err-vlrs.result _ _ found c.in_err-vlrs.ensures.fault c.from_residual-in_err-vlrs.ensures.1 is)))

pub returns-then-need-from-clause-survey : goal.returns-then-need-from-clause-survey
returns-then-need-from-clause-survey c = λ found is.
    let b : List ℕ = c.as_slice-all.result.now in
    let need : c.points_end_of-need.result ≡ points_end b = points_end-fields _ _ _ c.in_ok-header.ensures.fields c.points_end_of-need.ensures in
    let short : length b < points_end b = omega arith in
    let told : fault b ≡ Some (Points (points_end b) (length b)) =
    fault-points b c.in_ok-header.ensures.met
    (vlr_fault-fields _ c.in_ok-header.header _ _ _ c.in_ok-header.ensures.fields c.from-first.ensures c.from.ensures c.in_ok-vlrs.ensures.fitting) short in
    let same : Points c.points_end_of-need.result (length b) ≡ found = cc is in
    rw (← c.as_slice-all.ensures) (told ∙ ap (λ (n : ℕ). Some (Points n (length b))) (sym need) ∙ ap (λ (x : SurveyFault). Some x) same)

pub returns-in_err-evlrs-clause-survey : goal.returns-in_err-evlrs-clause-survey
returns-in_err-evlrs-clause-survey c = λ found is.
    let b : List ℕ = c.as_slice-all.result.now in
    let need : c.points_end_of-need.result ≡ points_end b = points_end-fields _ _ _ c.in_ok-header.ensures.fields c.points_end_of-need.ensures in
    let within : points_end b ≤ length b = omega arith in
    rw (← c.as_slice-all.ensures)
    (fault-evlr _ found c.in_ok-header.ensures.met
    (vlr_fault-fields _ c.in_ok-header.header _ _ _ c.in_ok-header.ensures.fields c.from-first.ensures c.from.ensures c.in_ok-vlrs.ensures.fitting) within
    (evlr_fault-fields _ c.in_ok-header.header _ _ c.in_ok-header.ensures.fields c.points_end_of-need.ensures
    (refused-evlr c.from_residual-in_err-evlrs.result _ _ found c.in_err-evlrs.ensures.fault c.from_residual-in_err-evlrs.ensures.1 is)))

pub returns-clause-laid : goal.returns-clause-laid
returns-clause-laid c =
    let b : List ℕ = c.as_slice-all.result.now in
    let need : c.points_end_of-need.result ≡ points_end b = points_end-fields _ _ _ c.in_ok-header.ensures.fields c.points_end_of-need.ensures in
    let within : points_end b ≤ length b = omega arith in
    rw (← c.as_slice-all.ensures)
    (laid _ c.in_ok-header.ensures.met
    (vlr_fault-fields _ c.in_ok-header.header _ _ _ c.in_ok-header.ensures.fields c.from-first.ensures c.from.ensures c.in_ok-vlrs.ensures.fitting) within
    (evlr_fault-fields _ c.in_ok-header.header _ _ c.in_ok-header.ensures.fields c.points_end_of-need.ensures c.in_ok-evlrs.ensures.fitting))

pub invariant_of-result : goal.invariant_of-result
invariant_of-result c =
    let b : List ℕ = c.as_slice-all.result.now in
    let same : b ≡ c.args.bytes.items = c.as_slice-all.ensures in
    let need : c.points_end_of-need.result ≡ points_end b = points_end-fields _ _ _ c.in_ok-header.ensures.fields c.points_end_of-need.ensures in
    let within : points_end b ≤ length b = omega arith in
    let short : length b ≤ 2 ^ 30 = rw same c.requires.short in
    let kept : IsKept b c.in_ok-header.header c.in_ok-vlrs.vlrs.items c.in_ok-evlrs.evlrs.items = record {
      laid = laid _ c.in_ok-header.ensures.met
          (vlr_fault-fields _ c.in_ok-header.header _ _ _ c.in_ok-header.ensures.fields c.from-first.ensures c.from.ensures c.in_ok-vlrs.ensures.fitting) within
          (evlr_fault-fields _ c.in_ok-header.header _ _ c.in_ok-header.ensures.fields c.points_end_of-need.ensures c.in_ok-evlrs.ensures.fitting);
      short = short;
      fields = c.in_ok-header.ensures.fields;
      vlrs_are = vlr_places-fields _ c.in_ok-header.header _ _ c.in_ok-header.ensures.fields c.from-first.ensures c.in_ok-vlrs.ensures.places;
      evlrs_are = evlr_places-fields _ c.in_ok-header.header _ c.in_ok-header.ensures.fields c.in_ok-evlrs.ensures.places;
    } in
    subst (λ (l : List ℕ). IsKept l c.in_ok-header.header c.in_ok-vlrs.vlrs.items c.in_ok-evlrs.evlrs.items) same kept
