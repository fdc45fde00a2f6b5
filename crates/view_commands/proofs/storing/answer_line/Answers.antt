use Rattle.std.proofs.Common.{◌∙◌, sym, subst}
use Rattle.std.specs.Prelude.{OnOk}
use Rattle.sessions.specs.Session.{Item}
use Rattle.view_commands.specs.Steps.{Answers, CanAnswer}
use Rattle.view_commands.proofs.storing.answer_line.Goals as goal

pub answer_command-requires-clause-command : goal.answer_command-requires-clause-command
answer_command-requires-clause-command g c _ _ = subst CanAnswer (sym c.read_command.ensures.command ∙ c.in-Ok.is) c.requires.line

pub returns : goal.returns
returns g c =
    subst (λ (item : Item). OnOk c.answer_command.result (Answers c.args.store.now c.answer_command.new.store item c.args.out.now.items c.answer_command.new.out.items))
    (sym c.in-Ok.is ∙ c.read_command.ensures.command) c.answer_command.ensures

pub unreachable-requires : goal.unreachable-requires
unreachable-requires g c = subst CanAnswer (sym c.read_command.ensures.command ∙ c.in-Err.is) c.requires.line
