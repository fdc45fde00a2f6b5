use Rattle.std.proofs.Common.{◌≡◌, ◌∙◌, slice_index, sym, ap}
use Rattle.view_meaning.specs.Classes.{passes}
use Rattle.view_meaning.specs.Survey.{point_of, withheld_of}
use Rattle.splat_workers.specs.Pairs.{pair_of}
use Rattle.min_frame.specs.Meaning.{Seated}
use Rattle.splat_workers.specs.Waiting.{Waiting}
use Rattle.splat_workers.proofs.Plotting.{drawn-same, plotting-more, plotting-none, pairs-take, pair_of-passes, pair_of-fails, passes-read, at_place}
use Rattle.splat_workers.proofs.block.plot_passing.Goals as goal
use Rattle.splat_workers.proofs.block.plot_passing.Goals.{then-passes, else-passes}

pub loop-place-preserved : goal.loop-place-preserved
loop-place-preserved c =
    let b = c.args.plan.now.survey.now in
    let cs = c.args.plan.now.classes.now in
    let lens = c.args.plan.now.camera.now in
    let filter = c.args.plan.now.filter.now in
    let numbers = c.args.records.now.numbers.now in
    let place = c.loop-place.place in
    let i = slice_index numbers place in
    let lt = c.loop-place-test.true in
    let tested : c.passes.result ≡ passes b cs filter i =
    passes-read b cs filter i _ _ c.passes.result c.class_at-class.ensures (at_place (withheld_of b) numbers c.args.records.now.withheld.now place _ c.requires.withheld lt) c.passes.ensures in
    elim c.if-passes.branch [
      | then-passes w ↦ record {
        drawn = plotting-more _ _ _ _ _ _ c.loop-place.invariant.drawn (drawn-same _ _ _ _ w.seat-is w.batch-is ∙ w.plot_point.ensures.drawn) (pairs-take (pair_of b cs lens filter) numbers place _ lt
            (pair_of-passes b cs lens filter i _ (sym tested ∙ w.if-passes.true) (at_place (point_of b) numbers c.args.records.now.points.now place _ c.requires.points lt)));
        frame = ap (λ (s : Seated). s.frame) w.seat-is ∙ w.plot_point.ensures.frame ∙ c.loop-place.invariant.frame;
        waits = ap (λ (v : Waiting). v.pixels) w.batch-is ∙ w.plot_point.ensures.waits ∙ c.loop-place.invariant.waits;
      }
      | else-passes w ↦ record {
        drawn = plotting-more _ _ _ _ _ _ c.loop-place.invariant.drawn (plotting-none _ _ (drawn-same _ _ _ _ w.seat-is w.batch-is)) (pairs-take (pair_of b cs lens filter) numbers place _ lt
            (sym (pair_of-fails b cs lens filter i (sym tested ∙ w.if-passes.false))));
        frame = ap (λ (s : Seated). s.frame) w.seat-is ∙ c.loop-place.invariant.frame;
        waits = ap (λ (v : Waiting). v.pixels) w.batch-is ∙ c.loop-place.invariant.waits;
      }
    ]
