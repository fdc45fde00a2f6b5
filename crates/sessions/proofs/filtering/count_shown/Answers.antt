use Rattle.std.proofs.Common.{◌+◌, arith}
use Rattle.sessions.specs.Passing.{record_passes}
use Rattle.sessions.proofs.Counted.{counted_more, one_at_most}
use Rattle.sessions.proofs.filtering.count_shown.Goals as goal

pub loop-k-preserved : goal.loop-k-preserved
loop-k-preserved c = record {
  counted = counted_more (record_passes c.args.survey.now c.args.filter.now c.args.run.now c.args.first) c.loop-k.k (c.loop-k.k + 1) c.loop-k.passing c.from-passing.result c.shows.result (omega arith) c.shows.ensures c.from-passing.ensures c.loop-k.invariant.counted;
  few = let step = one_at_most c.from-passing.result c.shows.result c.from-passing.ensures in omega (arith, step, c.loop-k.invariant.few);
}
