use Rattle.std.proofs.Common.{◌∙◌, refl}
use Rattle.view_base.proofs.Reading.{misfit-next, misfit-missing, read_more}
use Rattle.view_base.proofs.cursor.Cursor.read.Goals as goal

pub returns-in_default-clause-misfit : goal.returns-in_default-clause-misfit
returns-in_default-clause-misfit g c = misfit-missing _ _ _ _ _ c.args.self.now.read c.in_default.ensures.none c.requires.early

pub returns-in-None-clause-misfit : goal.returns-in-None-clause-misfit
returns-in-None-clause-misfit g c =
    misfit-next _ _ _ _ _ _ _ c.args.self.now.read c.in-Some.ensures.word (c.requires.kind _ ∙ rw (← c.in-None.ensures.value) refl)

pub invariant_of-self-clause-read : goal.invariant_of-self-clause-read
invariant_of-self-clause-read g c =
    read_more _ _ _ _ _ _ c.args.self.now.read c.in-Some.ensures.word (c.requires.kind _ ∙ rw (← c.in-Some-read.ensures.value) refl)
