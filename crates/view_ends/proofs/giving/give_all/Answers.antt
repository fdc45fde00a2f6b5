use Rattle.std.proofs.Common.{arith}
use Rattle.std.proofs.lemmas.Grind.{common_steps}
use Rattle.view_ends.proofs.Pieces.{gains_take}
use Rattle.view_ends.proofs.giving.give_all.Goals as goal

pub loop-given-preserved : goal.loop-given-preserved
loop-given-preserved g c = record {
  within = grind (arith, common_steps);
  got = gains_take _ _ _ _ _ _ _ c.split_at.ensures.back c.loop-given.invariant.got c.in_ok-given.ensures.bytes;
  calm = grind (arith, common_steps);
}
