use Rattle.std.proofs.Common.{◌∙◌, ap, refl, rules, Ok, Err}
use Rattle.std.specs.Arc.{arc_value}
use Rattle.view_meaning.specs.Survey.{format_of}
use Rattle.sessions.specs.Talk.{talk_of}
use Rattle.sessions.proofs.Calls.{made_nothing}
use Rattle.sessions.proofs.Answered.{items-wordless, items-one, answered_items}
use Rattle.sessions.proofs.answering.answer_line.Goals as goal

pub returns-then-is_none-clause-answered : goal.returns-then-is_none-clause-answered
returns-then-is_none-clause-answered g c =
    answered_items (arc_value c.args.world.now.scene.survey) (talk_of c.args.pass.now c.args.marks.now) _ _ _ _ _ _ (items-wordless (format_of (arc_value c.args.world.now.scene.survey)) c.args.line.now _ c.next_word.result c.requires.few c.without_cr-line.ensures (search (rules, c.is_none.ensures, c.if-is_none.true)) c.next_word.ensures.wordless)
    (refl, record { made = made_nothing c.args.pass.now; marks = refl }, refl)

pub returns-in-Ok-clause-answered : goal.returns-in-Ok-clause-answered
returns-in-Ok-clause-answered g c =
    answered_items (arc_value c.args.world.now.scene.survey) (talk_of c.args.pass.now c.args.marks.now) _ _ _ _ _ _ (items-one (format_of (arc_value c.args.world.now.scene.survey)) c.header.result.now.format c.args.line.now _ c.next_word.result _ (Ok c.in-Ok.command) c.requires.few c.without_cr-line.ensures (search (rules, c.is_none.ensures, c.if-is_none.false)) c.next_word.ensures.word
    (c.header.ensures.fields.format ∙ ap format_of c.deref.ensures) c.read_command.ensures.command c.in-Ok.is)
    c.answer_command.ensures.answered

pub returns-in-Err-clause-answered : goal.returns-in-Err-clause-answered
returns-in-Err-clause-answered g c =
    answered_items (arc_value c.args.world.now.scene.survey) (talk_of c.args.pass.now c.args.marks.now) _ _ _ _ _ _ (items-one (format_of (arc_value c.args.world.now.scene.survey)) c.header.result.now.format c.args.line.now _ c.next_word.result _ (Err c.in-Err.refusal) c.requires.few c.without_cr-line.ensures (search (rules, c.is_none.ensures, c.if-is_none.false)) c.next_word.ensures.word
    (c.header.ensures.fields.format ∙ ap format_of c.deref.ensures) c.read_command.ensures.command c.in-Err.is)
    (c.answer_refusal.ensures.answered (arc_value c.args.world.now.scene.survey) c.args.pass.now)
