use Rattle.std.proofs.Common.{length, arith, refl}
use Rattle.view_meaning.specs.Classes.{passes}
use Rattle.sessions.proofs.Counted.{counted_both}
use Rattle.sessions.proofs.counting.count_each.Goals as goal

pub loop-done-preserved : goal.loop-done-preserved
loop-done-preserved c =
    let size = length c.run_from-run.result.now in
    record {
      within = omega (arith, c.run_from-run.ensures.most, c.loop-done-test.true);
      counted = counted_both (passes c.args.survey.now c.args.classes.now c.args.filter.now) c.args.first c.loop-done.done size _ c.loop-done.passing c.count_run-passing.result
          refl c.loop-done.invariant.counted (c.count_run-passing.ensures.counted c.args.classes.now c.run_from-run.ensures.run);
      few = omega (arith, c.count_run-passing.ensures.few, c.loop-done.invariant.few);
    }
