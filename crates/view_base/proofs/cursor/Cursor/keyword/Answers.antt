use Rattle.std.proofs.Common.{sym, ◌∙◌}
use Rattle.std.proofs.lemmas.Bool.{not-true, not-false}
use Rattle.view_base.proofs.Reading.{misfit-next, misfit-missing, read_more}
use Rattle.view_base.proofs.cursor.Cursor.keyword.Goals as goal

pub returns-in_default-clause-misfit : goal.returns-in_default-clause-misfit
returns-in_default-clause-misfit g c = misfit-missing _ _ _ _ _ c.args.self.now.read c.in_default.ensures.none c.requires.early

pub returns-then-ne-clause-misfit : goal.returns-then-ne-clause-misfit
returns-then-ne-clause-misfit g c =
    misfit-next _ _ _ _ _ _ _ c.args.self.now.read c.in-Some.ensures.word (c.requires.kind _ ∙ not-true _ (sym c.if-ne.ensures))

pub invariant_of-self-clause-read : goal.invariant_of-self-clause-read
invariant_of-self-clause-read g c =
    read_more _ _ _ _ _ _ c.args.self.now.read c.in-Some.ensures.word (c.requires.kind _ ∙ not-false _ (sym c.if-ne.ensures))
