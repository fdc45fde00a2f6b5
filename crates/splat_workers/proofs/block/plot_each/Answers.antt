use Rattle.std.proofs.Common.{◌∙◌, ◌<◌, slice_index, arith}
use Rattle.view_meaning.specs.Survey.{point_of, record_count}
use Rattle.splat_workers.specs.Pairs.{pair_of}
use Rattle.splat_workers.proofs.Plotting.{plotting-more, pairs-take, pair_of-passes, passes-any, at_place}
use Rattle.splat_workers.proofs.block.plot_each.Goals as goal

pub loop-place-preserved : goal.loop-place-preserved
loop-place-preserved c =
    let b = c.args.plan.now.survey.now in
    let cs = c.args.plan.now.classes.now in
    let lens = c.args.plan.now.camera.now in
    let filter = c.args.plan.now.filter.now in
    let place = c.loop-place.place in
    let i = slice_index c.args.numbers.now place in
    let within : i < record_count b = c.requires.numbers place 0 c.loop-place-test.true in
    record {
      drawn = plotting-more _ _ _ _ _ _ c.loop-place.invariant.drawn c.plot_point.ensures.drawn (pairs-take (pair_of b cs lens filter) c.args.numbers.now place _ c.loop-place-test.true
          (pair_of-passes b cs lens filter i _ (passes-any b cs filter i c.pages.ensures.bytes (omega (arith, within, c.requires.records)) c.requires.classes c.requires.withheld)
          (at_place (point_of b) c.args.numbers.now c.args.points.now place _ c.requires.points c.loop-place-test.true)));
      frame = c.plot_point.ensures.frame ∙ c.loop-place.invariant.frame;
      waits = c.plot_point.ensures.waits ∙ c.loop-place.invariant.waits;
    }
