use Rattle.las_vlr.proofs.Extended.{IsWalkedFar}
use Rattle.las_vlr.proofs.evlrs.walk_evlrs.Given as goal

abbrev pub invariant-loop-k : goal.invariant-loop-k
invariant-loop-k l = IsWalkedFar l.bytes l.first l.points_end l.k l.at l.places.items
