use Rattle.std.proofs.Common.{length}
use Rattle.view_commands.proofs.status.+first_unfinished.Given as goal

abbrev pub decreases-first_unfinished : goal.decreases-first_unfinished
decreases-first_unfinished l = length l.ends.now
