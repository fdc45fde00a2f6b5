use Rattle.std.proofs.Common.{◌∙◌, sym}
use Rattle.view_base.specs.Text.{words}
use Rattle.view_lines.proofs.Rooms.{edit_of-room}
use Rattle.view_lines.proofs.reading.edit_command.Goals as goal

pub returns-in-Ok-clause-fits : goal.returns-in-Ok-clause-fits
returns-in-Ok-clause-fits c = edit_of-room (words c.args.line.now) c.args.format c.in-Ok.edit (sym c.read_edit.ensures ∙ c.in-Ok.is)
