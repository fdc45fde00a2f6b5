use Rattle.std.proofs.Common.{sym, subst}
use Rattle.sessions.specs.Worlds.{HasGivenBack}
use Rattle.view_commands.specs.Steps.{Seated}
use Rattle.view_commands.proofs.Begun.{is_served-same}
use Rattle.view_commands.proofs.seats.Seat.serve.Goals as goal

pub serve_session-requires-clause-given_back : goal.serve_session-requires-clause-given_back
serve_session-requires-clause-given_back g c κs within =
    subst (λ (seat : Seated). HasGivenBack seat.pass.seen seat.pass.who) (sym c.self.view_is) c.requires.ready.given_back

pub returns : goal.returns
returns g c = is_served-same _ _ _ _ c.self.view_is record {
  served = c.serve_session.ensures.served;
  own = c.serve_session.ensures.own;
  pass = c.serve_session.ensures.pass;
  given_back = c.serve_session.ensures.given_back;
  taken = c.serve_session.ensures.taken;
  reads = c.serve_session.ensures.reads;
  writes = c.serve_session.ensures.writes;
}
