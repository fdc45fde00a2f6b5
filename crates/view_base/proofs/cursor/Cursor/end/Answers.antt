use Rattle.view_base.proofs.Reading.{misfit-next, misfit-done}
use Rattle.view_base.proofs.cursor.Cursor.end.Goals as goal

pub returns-in-Some-clause-misfit : goal.returns-in-Some-clause-misfit
returns-in-Some-clause-misfit g c = misfit-next _ _ _ _ _ _ _ c.args.self.now.read c.in-Some.ensures.word (c.requires.last _)

pub returns-in-None-clause-fit : goal.returns-in-None-clause-fit
returns-in-None-clause-fit g c = misfit-done _ _ _ _ _ c.args.self.now.read c.in-None.ensures.none c.requires.whole
