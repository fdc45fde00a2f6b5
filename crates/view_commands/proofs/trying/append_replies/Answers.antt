use Rattle.std.proofs.Common.{◌≡◌, ◌++◌}
use Rattle.std.specs.Arc.{arc_value}
use Rattle.view_base.specs.Text.{words}
use Rattle.view_lines.specs.Command.{command_of}
use Rattle.view_commands.specs.Trial.{script_replies}
use Rattle.view_commands.specs.Steps.{Answers}
use Rattle.view_commands.specs.declared.script.TheConstants.{FORMAT}
use Rattle.view_commands.proofs.Newest.{on_ok-then}
use Rattle.view_commands.proofs.Scripted.{from_above, reclassify, in_perspective, count, shows-from_above, shows-in_perspective, shows-count, can_answer-reclassify, stage-next, script_replies-given}
use Rattle.view_commands.proofs.trying.append_replies.Goals as goal

pub answer_line-requires-clause-line : goal.answer_line-requires-clause-line
answer_line-requires-clause-line g c _ _ = shows-from_above.0

pub answer_line-requires-2-clause-line : goal.answer_line-requires-2-clause-line
answer_line-requires-2-clause-line g c _ _ = can_answer-reclassify

pub answer_line-requires-3-clause-line : goal.answer_line-requires-3-clause-line
answer_line-requires-3-clause-line g c _ _ = shows-in_perspective.0

pub answer_line-requires-4-clause-line : goal.answer_line-requires-4-clause-line
answer_line-requires-4-clause-line g c _ _ = shows-count.0

pub answer_line-requires-2-clause-stage : goal.answer_line-requires-2-clause-stage
answer_line-requires-2-clause-stage g c _ _ = stage-next c.args.scene.now c.args.store.now c.answer_line.new.store (command_of (words from_above) FORMAT) _ _ c.requires.stage c.in_ok-answer_line.ensures

pub answer_line-requires-3-clause-stage : goal.answer_line-requires-3-clause-stage
answer_line-requires-3-clause-stage g c _ _ =
    stage-next c.args.scene.now c.answer_line.new.store c.answer_line-2.new.store (command_of (words reclassify) FORMAT) _ _
    (stage-next c.args.scene.now c.args.store.now c.answer_line.new.store (command_of (words from_above) FORMAT) _ _ c.requires.stage c.in_ok-answer_line.ensures) c.in_ok-answer_line-2.ensures

pub answer_line-requires-4-clause-stage : goal.answer_line-requires-4-clause-stage
answer_line-requires-4-clause-stage g c _ _ =
    stage-next c.args.scene.now c.answer_line-2.new.store c.answer_line-3.new.store (command_of (words in_perspective) FORMAT) _ _
    (stage-next c.args.scene.now c.answer_line.new.store c.answer_line-2.new.store (command_of (words reclassify) FORMAT) _ _
    (stage-next c.args.scene.now c.args.store.now c.answer_line.new.store (command_of (words from_above) FORMAT) _ _ c.requires.stage c.in_ok-answer_line.ensures) c.in_ok-answer_line-2.ensures) c.in_ok-answer_line-3.ensures

pub returns : goal.returns
returns g c =
    let b = arc_value c.args.scene.now.survey in
    let out = c.args.out.now.items in
    on_ok-then c.answer_line-4.result
    (Answers c.answer_line-3.new.store c.answer_line-4.new.store (command_of (words count) FORMAT) c.answer_line-3.new.out.items c.answer_line-4.new.out.items)
    (c.answer_line-4.new.out.items ≡ out ++ script_replies b)
    (λ fourth. script_replies-given b c.args.store.now c.answer_line.new.store c.answer_line-2.new.store c.answer_line-3.new.store c.answer_line-4.new.store
    out c.answer_line.new.out.items c.answer_line-2.new.out.items c.answer_line-3.new.out.items c.answer_line-4.new.out.items
    c.requires.stage.bytes c.requires.new c.in_ok-answer_line.ensures c.in_ok-answer_line-2.ensures c.in_ok-answer_line-3.ensures fourth)
    c.answer_line-4.ensures
