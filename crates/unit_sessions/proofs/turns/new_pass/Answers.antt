use Rattle.std.proofs.Common.{ap}
use Rattle.turn_gate.specs.Meaning.{Passed}
use Rattle.version_store.specs.declared.history.Entry.{Entry}
use Rattle.sessions.proofs.Later.{HasGivenBack-new}
use Rattle.unit_sessions.proofs.turns.new_pass.Goals as goal

pub returns-clause-given_back : goal.returns-clause-given_back
returns-clause-given_back c = HasGivenBack-new c.split.result c.split.ensures.own (ap (λ (p : Passed Entry). p.mine) c.split.ensures.pass)
