use Rattle.std.proofs.Common.{length}
use Rattle.view_commands.proofs.status.+first_fault.Given as goal

abbrev pub decreases-first_fault : goal.decreases-first_fault
decreases-first_fault l = length l.reasons.now
