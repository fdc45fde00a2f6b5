use Rattle.las_vlr.proofs.Walked.{IsWalked}
use Rattle.las_vlr.proofs.vlrs.walk_vlrs.Given as goal

abbrev pub invariant-loop-k : goal.invariant-loop-k
invariant-loop-k l = IsWalked l.bytes l.first l.fn.end l.k l.at l.places.items
