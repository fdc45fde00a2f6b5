use Rattle.std.proofs.Common.{ap}
use Rattle.turn_gate.specs.Meaning.{Passed}
use Rattle.version_store.specs.declared.history.Entry.{Entry}
use Rattle.unit_sessions.proofs.turns.take_turns.Goals as goal

pub serves-requires-3-clause-given_back : goal.serves-requires-3-clause-given_back
serves-requires-3-clause-given_back g c κs within = rw (ap (λ (p : Passed Entry). p.who) c.serves.ensures.pass) c.serves.ensures.given_back
