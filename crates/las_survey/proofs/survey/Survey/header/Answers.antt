use Rattle.las_survey.proofs.Kept.{kept-sound}
use Rattle.las_survey.proofs.survey.Survey.header.Goals as goal

pub returns-clause-known : goal.returns-clause-known
returns-clause-known c = (kept-sound _ _ _ _ _ c.self.invariant c.self.view_is).known

pub returns-clause-fitting : goal.returns-clause-fitting
returns-clause-fitting c = (kept-sound _ _ _ _ _ c.self.invariant c.self.view_is).fitting
