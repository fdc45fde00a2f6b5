use Rattle.std.proofs.Common.{arith}
use Rattle.splat_workers.proofs.Pieces.{pieces_few}
use Rattle.splat_workers.proofs.plan.Plan.pieces.Goals as goal

pub returns-clause-few : goal.returns-clause-few
returns-clause-few c = omega (arith, c.div_ceil.ensures, pieces_few c.count.result c.args.self.now.step c.requires, c.count.ensures)
