use Rattle.std.proofs.Common.{◌+◌, arith}
use Rattle.sessions.specs.Passing.{class_passes}
use Rattle.sessions.proofs.Counted.{counted_more, one_at_most}
use Rattle.sessions.proofs.filtering.count_classes.Goals as goal

pub loop-k-preserved : goal.loop-k-preserved
loop-k-preserved c = record {
  counted = counted_more (class_passes c.args.filter.now c.args.run.now) c.loop-k.k (c.loop-k.k + 1) c.loop-k.passing c.from-passing.result c.has.result (omega arith) c.has.ensures c.from-passing.ensures c.loop-k.invariant.counted;
  few = let step = one_at_most c.from-passing.result c.has.result c.from-passing.ensures in omega (arith, step, c.loop-k.invariant.few);
}
