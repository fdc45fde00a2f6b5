use Rattle.std.proofs.Common.{◌∙◌, sym}
use Rattle.std.proofs.lemmas.List.{take_rest}
use Rattle.view_lines.proofs.CommandOf.{bytes_eq-answered, command_of-wordless, command_of-view, command_of-edit, command_of-count, command_of-save, command_of-other}
use Rattle.view_lines.proofs.Rooms.{save-fits}
use Rattle.view_lines.proofs.reading.read_command.Goals as goal

pub returns-in_default-clause-command : goal.returns-in_default-clause-command
returns-in_default-clause-command c = sym (command_of-wordless c.args.line.now c.args.format c.in_default.ensures.wordless)

pub returns-then-eq-clause-command : goal.returns-then-eq-clause-command
returns-then-eq-clause-command c =
    let view = bytes_eq-answered _ _ _ _ _ c.eq.ensures c.as_slice.ensures c.if-eq.true in
    let command = rw take_rest at c.view_command.ensures.command in
    command ∙ sym (command_of-view c.args.line.now _ _ c.args.format c.in-Some.ensures.word view)

pub returns-then-eq-2-clause-command : goal.returns-then-eq-2-clause-command
returns-then-eq-2-clause-command c =
    let view = bytes_eq-answered _ _ _ _ _ c.eq.ensures c.as_slice.ensures c.if-eq.false in
    let edit = bytes_eq-answered _ _ _ _ _ c.eq-2.ensures c.as_slice-2.ensures c.if-eq-2.true in
    c.edit_command.ensures.command ∙ sym (command_of-edit c.args.line.now _ _ c.args.format c.in-Some.ensures.word view edit)

pub returns-then-eq-3-clause-command : goal.returns-then-eq-3-clause-command
returns-then-eq-3-clause-command c =
    let view = bytes_eq-answered _ _ _ _ _ c.eq.ensures c.as_slice.ensures c.if-eq.false in
    let edit = bytes_eq-answered _ _ _ _ _ c.eq-2.ensures c.as_slice-2.ensures c.if-eq-2.false in
    let count = bytes_eq-answered _ _ _ _ _ c.eq-3.ensures c.as_slice-3.ensures c.if-eq-3.true in
    let command = rw take_rest at c.count_command.ensures.command in
    command ∙ sym (command_of-count c.args.line.now _ _ c.args.format c.in-Some.ensures.word view edit count)

pub returns-then-eq-4-clause-command : goal.returns-then-eq-4-clause-command
returns-then-eq-4-clause-command c =
    let view = bytes_eq-answered _ _ _ _ _ c.eq.ensures c.as_slice.ensures c.if-eq.false in
    let edit = bytes_eq-answered _ _ _ _ _ c.eq-2.ensures c.as_slice-2.ensures c.if-eq-2.false in
    let count = bytes_eq-answered _ _ _ _ _ c.eq-3.ensures c.as_slice-3.ensures c.if-eq-3.false in
    let save = bytes_eq-answered _ _ _ _ _ c.eq-4.ensures c.as_slice-4.ensures c.if-eq-4.true in
    let command = rw take_rest at c.save_command.ensures.command in
    command ∙ sym (command_of-save c.args.line.now _ _ c.args.format c.in-Some.ensures.word view edit count save)

pub returns-then-eq-4-clause-fits : goal.returns-then-eq-4-clause-fits
returns-then-eq-4-clause-fits c = save-fits _ c.args.format c.save_command.result c.save_command.ensures.command

pub returns-clause-command : goal.returns-clause-command
returns-clause-command c =
    let view = bytes_eq-answered _ _ _ _ _ c.eq.ensures c.as_slice.ensures c.if-eq.false in
    let edit = bytes_eq-answered _ _ _ _ _ c.eq-2.ensures c.as_slice-2.ensures c.if-eq-2.false in
    let count = bytes_eq-answered _ _ _ _ _ c.eq-3.ensures c.as_slice-3.ensures c.if-eq-3.false in
    let save = bytes_eq-answered _ _ _ _ _ c.eq-4.ensures c.as_slice-4.ensures c.if-eq-4.false in
    sym (command_of-other c.args.line.now _ _ c.args.format c.in-Some.ensures.word view edit count save)
