use Rattle.sessions.proofs.Answered.{answered_command}
use Rattle.sessions.proofs.answering.answer_command.Goals as goal

pub returns-in-View-clause-answered : goal.returns-in-View-clause-answered
returns-in-View-clause-answered g c = answered_command _ _ _ _ _ _ _ _ c.in-View.is (c.give_reply.ensures.answered _ _ _ _ c.view_reply-reply.ensures.replied)

pub returns-in-Edit-clause-answered : goal.returns-in-Edit-clause-answered
returns-in-Edit-clause-answered g c = answered_command _ _ _ _ _ _ _ _ c.in-Edit.is (c.give_reply-in-Edit.ensures.answered _ _ _ _ c.edit_reply-reply.ensures.replied)

pub returns-in-Count-clause-answered : goal.returns-in-Count-clause-answered
returns-in-Count-clause-answered g c = answered_command _ _ _ _ _ _ _ _ c.in-Count.is (c.give_reply-in-Count.ensures.answered _ _ _ _ c.count_reply-reply.ensures.replied)
