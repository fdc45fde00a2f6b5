use Rattle.std.proofs.Common.{◌<◌, length, ap, rules, arith, is_ok, List, ℕ}
use Rattle.std.specs.Arc.{arc_value}
use Rattle.sessions.specs.Session.{rest}
use Rattle.sessions.specs.Talk.{Start, talk_of}
use Rattle.sessions.specs.Hearing.{HasHeard}
use Rattle.sessions.proofs.Heard.{some_long, some_kept, none_kept, heard_end, end_gave_up, heard_all}
use Rattle.sessions.proofs.hearing.hear_end.Goals as goal
use Rattle.sessions.proofs.hearing.hear_end.Goals.{then-pending-via-then-pending, then-pending-via-else-pending+then-len-gt0}

pub returns-in_err-answer_pending-clause-gave_up :
    goal.returns-in_err-answer_pending-clause-gave_up
returns-in_err-answer_pending-clause-gave_up g c =
    search (
      rules,
      λ (t : List ℕ) (start : Start) (h : HasHeard (arc_value c.args.world.now.scene.survey) t (talk_of c.args.pass.now c.args.marks.now) c.args.pending.now start (g.O.Sink.got c.args.sink.now)).
          let some : 0 < length (rest t) = elim c.then-pending.branch [
            | then-pending-via-then-pending w ↦ some_long _ _ h.kept w.if-pending.true
            | then-pending-via-else-pending+then-len-gt0 w ↦ some_kept _ _ h.kept w.if-pending.false (omega arith)
          ] in
          end_gave_up _ t _ _ _ start _ _ some h (rw (ap is_ok c.in_err-answer_pending.was) at (c.answer_pending.ensures.answered _ h.kept)),
    )

pub returns-in_ok-answer_pending-clause-heard : goal.returns-in_ok-answer_pending-clause-heard
returns-in_ok-answer_pending-clause-heard g c = λ t start h.
    let some : 0 < length (rest t) = elim c.then-pending.branch [
      | then-pending-via-then-pending w ↦ some_long _ _ h.kept w.if-pending.true
      | then-pending-via-else-pending+then-len-gt0 w ↦ some_kept _ _ h.kept w.if-pending.false (omega arith)
    ] in
    heard_end _ t _ _ _ start _ _ some h (rw (ap is_ok c.in_ok-answer_pending.was) at (c.answer_pending.ensures.answered _ h.kept))

pub returns-else-len-gt0-clause-heard : goal.returns-else-len-gt0-clause-heard
returns-else-len-gt0-clause-heard g c = λ t start h.
    heard_all _ t _ _ start _ (none_kept _ _ h.kept c.if-pending.false (omega arith)) h
