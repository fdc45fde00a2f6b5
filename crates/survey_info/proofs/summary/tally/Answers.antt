use Rattle.std.proofs.Common.{◌≡◌, ◌<◌, ◌+◌, ◌∙◌, sym, refl, arith, ◌≤◌, ℕ, List, [], get_or}
use Rattle.std.specs.Int.{int_min, int_max}
use Rattle.view_meaning.specs.Survey.{point_of}
use Rattle.view_meaning.specs.Classes.{class_at}
use Rattle.view_meaning.proofs.Reading.{point-from_part}
use Rattle.survey_info.proofs.Corners.{corner-begins, corner-more, area_of-none, area_of-some}
use Rattle.survey_info.proofs.Counts.{tally-begins, tally-few, tally-more, tally-ends, tally-none, class_at-from_part}
use Rattle.survey_info.proofs.summary.tally.Goals as goal

pub returns-then-records-eq0-clause-area : goal.returns-then-records-eq0-clause-area
returns-then-records-eq0-clause-area c = sym (area_of-none c.args.survey.now (sym c.records.ensures.count ∙ c.if-records-eq0.true))

pub returns-then-records-eq0-clause-counts : goal.returns-then-records-eq0-clause-counts
returns-then-records-eq0-clause-counts c = tally-none c.args.survey.now c.args.counts.now c.requires (sym c.records.ensures.count ∙ c.if-records-eq0.true)

pub loop-i-init : goal.loop-i-init
loop-i-init c =
    let first : c.xyz-first.result ≡ point_of c.args.survey.now 0 = point-from_part c.args.survey.now 0 _ c.xyz-first.result c.point_bytes.ensures.least c.point_bytes.ensures.bytes c.xyz-first.ensures in
    record {
      least = corner-begins int_min c.args.survey.now c.xyz-first.result first;
      greatest = corner-begins int_max c.args.survey.now c.xyz-first.result first;
      tally = tally-begins c.args.survey.now c.args.counts.now c.requires;
    }

pub overflow_add-counts : goal.overflow_add-counts
overflow_add-counts c =
    let class : c.from.result < 256 = omega (arith, c.from.ensures, c.class_of-class.type_inv) in
    let few : get_or c.loop-i.counts c.from.result 0 ≤ c.loop-i.i = tally-few c.args.survey.now c.loop-i.counts c.loop-i.i c.from.result c.loop-i.invariant.tally class in
    omega (arith, few, c.loop-i-test.true, c.records-i-end.ensures.small)

pub loop-i-preserved : goal.loop-i-preserved
loop-i-preserved c =
    let b : List ℕ = c.args.survey.now in
    let p : c.xyz-p.result ≡ point_of b c.loop-i.i = point-from_part b c.loop-i.i _ c.xyz-p.result c.point_bytes-rec.ensures.least c.point_bytes-rec.ensures.bytes c.xyz-p.ensures in
    let is : c.from.result ≡ class_at b [] c.loop-i.i =
    c.from.ensures ∙ class_at-from_part b c.loop-i.i c.point_bytes-rec.result.now c.header.result.now.format c.class_place.result (get_or c.point_bytes-rec.result.now c.class_place.result 0) c.class_of-class.result
    c.header.ensures.fields.format c.class_place.ensures c.point_bytes-rec.ensures.least c.point_bytes-rec.ensures.bytes refl c.class_of-class.ensures.class in
    record {
      least = corner-more int_min b c.loop-i.i (c.loop-i.i + 1) c.loop-i.min c.lesser-min.result c.xyz-p.result refl c.loop-i.invariant.least p c.lesser-min.ensures;
      greatest = corner-more int_max b c.loop-i.i (c.loop-i.i + 1) c.loop-i.max c.greater-max.result c.xyz-p.result refl c.loop-i.invariant.greatest p c.greater-max.ensures;
      tally = tally-more b c.loop-i.counts c.loop-i.i (c.loop-i.i + 1) c.from.result (get_or c.loop-i.counts c.from.result 0 + 1) refl (omega (arith, c.from.ensures, c.class_of-class.type_inv)) is refl c.loop-i.invariant.tally;
    }

pub returns-clause-area : goal.returns-clause-area
returns-clause-area c =
    area_of-some c.args.survey.now c.loop-i.i c.loop-i.min c.loop-i.max (omega (arith, c.records-i-end.ensures.count)) (λ none. c.if-records-eq0.false (c.records.ensures.count ∙ none)) c.loop-i.invariant.least c.loop-i.invariant.greatest

pub returns-clause-counts : goal.returns-clause-counts
returns-clause-counts c = tally-ends c.args.survey.now c.loop-i.counts c.loop-i.i (omega (arith, c.records-i-end.ensures.count)) c.loop-i.invariant.tally
