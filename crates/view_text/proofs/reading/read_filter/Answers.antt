use Rattle.std.proofs.Common.{sym}
use Rattle.view_base.specs.Text.{words}
use Rattle.view_text.proofs.Views.{filter_of-misfit, filter_of-fitting}
use Rattle.view_text.proofs.reading.read_filter.Goals as goal

pub returns-in-Ok : goal.returns-in-Ok
returns-in-Ok c = sym (filter_of-fitting (words c.args.line.now) c.in-Ok.filter c.in-Ok.ensures.fit c.in-Ok.ensures.filter)

pub returns-in-Err : goal.returns-in-Err
returns-in-Err c = sym (filter_of-misfit (words c.args.line.now) c.in-Err.at c.in-Err.ensures.misfit)
