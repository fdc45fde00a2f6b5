use Rattle.std.proofs.Common.{◌∙◌, ◌+◌, ◌<◌, arith}
use Rattle.view_meaning.proofs.Reading.{point-from_part}
use Rattle.splat_workers.specs.Pairs.{pair_of}
use Rattle.splat_workers.proofs.Plotting.{plotting-more, pairs-range, pair_of-passes, passes-any}
use Rattle.splat_workers.proofs.block.plot_each_numbered.Goals as goal

pub loop-number-preserved : goal.loop-number-preserved
loop-number-preserved c =
    let b = c.args.plan.now.survey.now in
    let cs = c.args.plan.now.classes.now in
    let lens = c.args.plan.now.camera.now in
    let filter = c.args.plan.now.filter.now in
    let i = c.loop-number.number in
    let below : i < c.args.first + c.args.count = c.loop-number-test.true in
    record {
      drawn = plotting-more _ _ _ _ _ _ c.loop-number.invariant.drawn c.plot_point.ensures.drawn (pairs-range (pair_of b cs lens filter) c.args.first i _ c.loop-number.auto.number
          (pair_of-passes b cs lens filter i _ (passes-any b cs filter i c.pages.ensures.bytes (omega (arith, below, c.requires.records, c.requires.numbers)) c.requires.classes c.requires.withheld)
          (point-from_part b i _ _ c.point_bytes.ensures.least c.point_bytes.ensures.bytes c.xyz-point.ensures)));
      frame = c.plot_point.ensures.frame ∙ c.loop-number.invariant.frame;
      waits = c.plot_point.ensures.waits ∙ c.loop-number.invariant.waits;
    }
