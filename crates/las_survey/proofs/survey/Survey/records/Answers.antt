use Rattle.std.proofs.Common.{◌≤◌, arith}
use Rattle.las_survey.proofs.Kept.{kept-few}
use Rattle.las_survey.proofs.survey.Survey.records.Goals as goal

pub overflow_cast-result : goal.overflow_cast-result
overflow_cast-result c = let few : c.self.inside.header.records ≤ 53687091 = kept-few _ _ _ _ c.self.invariant in omega arith

pub returns-clause-small : goal.returns-clause-small
returns-clause-small c = kept-few _ _ _ _ c.self.invariant
