use Rattle.std.proofs.Common.{◌≡◌, ◌++◌, ◌∷◌, ◌∙◌, [], ◌+◌, take, drop, refl, sym, ap, rules, arith, Some, is_ok, List, ℕ}
use Rattle.std.specs.List.{position}
use Rattle.std.specs.Arc.{arc_value}
use Rattle.std.proofs.lemmas.List.{append_assoc, append-nil, take_all, length-drop}
use Rattle.sessions.specs.Session.{is_lf, rest}
use Rattle.sessions.specs.Talk.{Start, talk_of}
use Rattle.sessions.specs.Hearing.{HasHeard}
use Rattle.sessions.proofs.Lines.{unbroken, unbroken_front}
use Rattle.sessions.proofs.Heard.{heard_part, heard_line, heard_gave_up, cut_piece, heard_as, gave_up_as, regroup, regroup_lf, tail_on}
use Rattle.sessions.proofs.hearing.hear.Goals as goal

pub returns-in_err-answer_pending-clause-gave_up :
    goal.returns-in_err-answer_pending-clause-gave_up
returns-in_err-answer_pending-clause-gave_up g c =
    search (
      rules,
      λ (t : List ℕ) (start : Start) (h : HasHeard (arc_value c.args.world.now.scene.survey) t (talk_of c.args.pass.now c.args.marks.now) c.args.pending.now start (g.O.Sink.got c.args.sink.now)).
          let b = arc_value c.args.world.now.scene.survey in
          let k = c.in-Some.length in
          let front = c.loop-length.invariant.0 in
          let left = c.loop-length.rest.now in
          let found : position is_lf left ≡ Some k = sym c.first_lf.ensures ∙ c.in-Some.is in
          let before = c.loop-length.invariant.2 t start h in
          let same : t ++ front ++ take k left ++ 10 ∷ drop (k + 1) left ≡ t ++ c.args.piece.now = regroup t front (take k left) (10 ∷ drop (k + 1) left) c.args.piece.now (cut_piece c.args.piece.now front left k found c.loop-length.invariant.1) in
          let answered = c.answer_pending.ensures.answered (rest (t ++ front) ++ take k left) (c.add.ensures _ before.kept) in
          gave_up_as b _ (t ++ c.args.piece.now) _ start _ same (heard_gave_up b (t ++ front) (take k left) (drop (k + 1) left) _ _ _ start _ _ (unbroken_front left k found) before (rw (ap is_ok c.in_err-answer_pending.was) at answered)),
    )

pub loop-length-init : goal.loop-length-init
loop-length-init g c = (
  [],
  refl,
  λ t start h. heard_as (arc_value c.args.world.now.scene.survey) t (t ++ []) _ _ start _ (sym (append-nil t)) h,
  refl,
  c.requires.ready,
)

pub loop-length-preserved : goal.loop-length-preserved
loop-length-preserved g c =
    let k = c.in-Some.length in
    let front = c.loop-length.invariant.0 in
    let left = c.loop-length.rest.now in
    let found : position is_lf left ≡ Some k = sym c.first_lf.ensures ∙ c.in-Some.is in (
      front ++ take k left ++ 10 ∷ [],
      cut_piece c.args.piece.now front left k found c.loop-length.invariant.1 ∙ tail_on front (take k left) (drop (k + 1) left) _ (sym (take_all _ (drop (k + 1) left) (omega (arith, length-drop (k + 1) left)))),
      λ t start h.
          let b = arc_value c.args.world.now.scene.survey in
          let before = c.loop-length.invariant.2 t start h in
          let answered = c.answer_pending.ensures.answered (rest (t ++ front) ++ take k left) (c.add.ensures _ before.kept) in
          heard_as b _ _ _ _ start _ (regroup_lf t front (take k left)) (heard_line b (t ++ front) (take k left) _ _ _ _ start _ _ (unbroken_front left k found) before (rw (ap is_ok c.in_ok-answer_pending.was) at answered) c.in_ok-answer_pending.ensures.cleared),
      search (rules, c.in_ok-answer_pending.ensures.gave, c.loop-length.invariant.3),
      c.answer_pending.ensures.ready,
    )

pub returns-clause-heard : goal.returns-clause-heard
returns-clause-heard g c = λ t start h.
    let front = c.loop-length.invariant.0 in
    let part = c.loop-length.rest.now in
    let whole : t ++ front ++ part ≡ t ++ c.args.piece.now = append_assoc t front part ∙ ap (λ u. t ++ u) (sym c.loop-length.invariant.1) in
    let b = arc_value c.args.world.now.scene.survey in
    let before = c.loop-length.invariant.2 t start h in
    heard_as b _ _ _ _ start _ whole (heard_part b (t ++ front) part _ _ _ start _ (unbroken part (sym c.first_lf.ensures ∙ c.in_default.is)) before (c.add-2.ensures _ before.kept))
