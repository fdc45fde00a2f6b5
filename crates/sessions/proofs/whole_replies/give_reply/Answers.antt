use Rattle.sessions.proofs.Answered.{answered_given, answered_nothing}
use Rattle.sessions.proofs.whole_replies.give_reply.Goals as goal

pub returns-in-Ok-clause-answered : goal.returns-in-Ok-clause-answered
returns-in-Ok-clause-answered g c = λ b old new item replied.
    answered_given b old new item _ _ c.args.reply c.in-Ok.reply c.as_slice.result.now c.give_all.result replied c.in-Ok.is c.as_slice.ensures c.give_all.ensures.given c.give_all.ensures.part

pub returns-in-Err-clause-answered : goal.returns-in-Err-clause-answered
returns-in-Err-clause-answered g c = λ b old new item replied. answered_nothing b old new item _ c.args.reply _ replied c.in-Err.is
