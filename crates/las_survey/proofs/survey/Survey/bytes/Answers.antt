use Rattle.std.proofs.Common.{arith}
use Rattle.view_meaning.specs.Survey.{points_end}
use Rattle.las_survey.proofs.Kept.{kept-sound}
use Rattle.las_survey.proofs.survey.Survey.bytes.Goals as goal

pub returns-clause-points : goal.returns-clause-points
returns-clause-points c = (kept-sound _ _ _ _ _ c.self.invariant c.self.view_is).points

pub returns-clause-before : goal.returns-clause-before
unfolding points_end
returns-clause-before c = omega arith
