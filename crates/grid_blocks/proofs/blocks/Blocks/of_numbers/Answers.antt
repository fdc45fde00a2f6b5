use Rattle.std.proofs.Common.{arith}
use Rattle.std.proofs.lemmas.List.FromFn.{length-range_with_len}
use Rattle.grid_blocks.proofs.blocks.Blocks.of_numbers.Goals as goal

pub invariant_of-result : goal.invariant_of-result
invariant_of-result c = (c.requires, length-range_with_len 0 c.args.records, omega (arith, c.ranges.records))
