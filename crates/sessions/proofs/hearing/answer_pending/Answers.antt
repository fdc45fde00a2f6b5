use Rattle.std.proofs.Common.{◌≡◌, rules, ap, ◌∙◌, is_ok}
use Rattle.std.specs.Arc.{arc_value}
use Rattle.sessions.proofs.Answered.{not_done}
use Rattle.sessions.proofs.Heard.{answered_long, answered_same}
use Rattle.sessions.proofs.hearing.answer_pending.Goals as goal
use Rattle.sessions.proofs.hearing.answer_pending.Goals.{then-pending+in_ok-answer_refusal, else-pending+in_ok-answer_line}

pub returns-in_err-answer_refusal-clause-answered :
    goal.returns-in_err-answer_refusal-clause-answered
returns-in_err-answer_refusal-clause-answered g c = λ line is. answered_long _ _ _ line _ _ _ (is.many (search (rules, c.if-pending.true))) (rw (not_done _ c.from_residual.result c.from_residual.ensures.1) (rw (ap is_ok c.in_err-answer_refusal.was) at (c.answer_refusal.ensures.answered (arc_value c.args.world.now.scene.survey) c.args.pass.now)))

pub returns-clause-answered : goal.returns-clause-answered
returns-clause-answered g c = λ line is.
    elim c.if-pending.branch [
      | then-pending+in_ok-answer_refusal w ↦
          rw (w.pass-is, w.marks-is, w.sink-is) (answered_long _ _ _ line _ _ _ (is.many (search (rules, w.if-pending.true))) (rw (ap is_ok w.in_ok-answer_refusal.was) at (w.answer_refusal.ensures.answered (arc_value c.args.world.now.scene.survey) c.args.pass.now)))
      | else-pending+in_ok-answer_line w ↦
          let same : w.as_slice.result.now ≡ line = w.as_slice.ensures ∙ is.few (search (rules, w.if-pending.false)) in
          rw (w.pass-is, w.marks-is, w.sink-is) (answered_same _ _ _ _ line _ _ _ same (ap is_ok w.in_ok-answer_line.was) w.answer_line.ensures.answered)
    ]
