use Rattle.std.proofs.Common.{◌≡◌, ◌∙◌, sym, ap}
use Rattle.las_points.proofs.Fields.{withheld-from_part}
use Rattle.view_meaning.specs.Classes.{passes}
use Rattle.view_meaning.proofs.Reading.{point-from_part}
use Rattle.splat_workers.specs.Pairs.{pair_of}
use Rattle.min_frame.specs.Meaning.{Seated}
use Rattle.splat_workers.specs.Waiting.{Waiting}
use Rattle.splat_workers.proofs.Plotting.{drawn-same, plotting-more, plotting-none, pairs-range, pair_of-passes, pair_of-fails, passes-read}
use Rattle.splat_workers.proofs.block.plot_passing_numbered.Goals as goal
use Rattle.splat_workers.proofs.block.plot_passing_numbered.Goals.{then-passes, else-passes}

pub loop-number-preserved : goal.loop-number-preserved
loop-number-preserved c =
    let b = c.args.plan.now.survey.now in
    let cs = c.args.plan.now.classes.now in
    let lens = c.args.plan.now.camera.now in
    let filter = c.args.plan.now.filter.now in
    let i = c.loop-number.number in
    let from = c.loop-number.auto.number in
    let rec = c.point_bytes-rec.ensures in
    let tested : c.passes.result ≡ passes b cs filter i =
    passes-read b cs filter i _ _ c.passes.result c.class_at-class.ensures (withheld-from_part b i _ _ c.withheld.result c.header.ensures.fields.format rec.least rec.bytes c.withheld.ensures) c.passes.ensures in
    elim c.if-passes.branch [
      | then-passes w ↦ record {
        drawn = plotting-more _ _ _ _ _ _ c.loop-number.invariant.drawn (drawn-same _ _ _ _ w.seat-is w.batch-is ∙ w.plot_point.ensures.drawn) (pairs-range (pair_of b cs lens filter) c.args.first i _ from
            (pair_of-passes b cs lens filter i _ (sym tested ∙ w.if-passes.true) (point-from_part b i _ _ rec.least rec.bytes w.xyz.ensures)));
        frame = ap (λ (s : Seated). s.frame) w.seat-is ∙ w.plot_point.ensures.frame ∙ c.loop-number.invariant.frame;
        waits = ap (λ (v : Waiting). v.pixels) w.batch-is ∙ w.plot_point.ensures.waits ∙ c.loop-number.invariant.waits;
      }
      | else-passes w ↦ record {
        drawn = plotting-more _ _ _ _ _ _ c.loop-number.invariant.drawn (plotting-none _ _ (drawn-same _ _ _ _ w.seat-is w.batch-is)) (pairs-range (pair_of b cs lens filter) c.args.first i _ from
            (sym (pair_of-fails b cs lens filter i (sym tested ∙ w.if-passes.false))));
        frame = ap (λ (s : Seated). s.frame) w.seat-is ∙ c.loop-number.invariant.frame;
        waits = ap (λ (v : Waiting). v.pixels) w.batch-is ∙ c.loop-number.invariant.waits;
      }
    ]
