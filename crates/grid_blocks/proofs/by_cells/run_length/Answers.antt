use Rattle.std.proofs.Common.{arith}
use Rattle.grid_blocks.proofs.Runs.{alone_one, alone_more}
use Rattle.grid_blocks.proofs.by_cells.run_length.Goals as goal

pub loop-count-init : goal.loop-count-init
loop-count-init c = record { some = omega arith; few = omega (arith, c.min-most.ensures, c.requires); alone = alone_one c.args.words.now }

pub loop-count-preserved : goal.loop-count-preserved
loop-count-preserved c = record { some = omega arith; few = omega arith; alone = alone_more c.loop-count.count c.args.words.now c.if-words-count.true c.loop-count.invariant.alone }
