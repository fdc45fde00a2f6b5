use Rattle.std.proofs.Common.{length}
use Rattle.std.specs.Vec.Iter.{into_iter_items}
use Rattle.view_commands.proofs.opening.+shut_all.Given as goal

abbrev pub decreases-shut_all : goal.decreases-shut_all
decreases-shut_all g l = length (into_iter_items l.seats)
