use Rattle.sessions.proofs.Taking.{served_nothing, served_listened, listened_back}
use Rattle.sessions.proofs.Heard.{heard_nothing}
use Rattle.sessions.proofs.serving.serve_session.Goals as goal

pub returns-in_default-clause-served : goal.returns-in_default-clause-served
returns-in_default-clause-served g c = rw (c.memory_end.ensures.marks, c.memory_end.ensures.reason, c.memory_end.ensures.taken) (served_nothing _ _ _ _ _)

pub listen-reason-requires-clause-heard : goal.listen-reason-requires-clause-heard
listen-reason-requires-clause-heard g c κs within = heard_nothing _ _ _ _ _ c.new-marks.ensures c.in-Ok.ensures

pub returns-clause-served : goal.returns-clause-served
returns-clause-served g c = served_listened _ _ _ _ _ _ _ c.listen-reason.ensures.listened

pub returns-clause-given_back : goal.returns-clause-given_back
returns-clause-given_back g c = listened_back _ _ _ _ _ _ _ c.listen-reason.ensures.listened c.requires.given_back
