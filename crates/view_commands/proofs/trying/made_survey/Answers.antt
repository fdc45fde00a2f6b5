use Rattle.std.proofs.Common.{◌∙◌, List, ℕ, Some, Err, ap}
use Rattle.las_survey.specs.declared.loading.LoadFault.{LoadFault}
use Rattle.view_commands.proofs.Tried.{taken-all, made-short, made-faultless}
use Rattle.view_commands.proofs.trying.made_survey.Goals as goal

pub returns-in-Ok : goal.returns-in-Ok
returns-in-Ok c = taken-all _ _ _ _ _ _ (c.new.ensures.left ∙ ap (λ (l : List ℕ). Some l) c.in_ok-bytes.ensures.bytes) c.in-Ok.ensures.took

pub unreachable-requires-in-TooLong : goal.unreachable-requires-in-TooLong
unreachable-requires-in-TooLong c =
    made-short c.args.start c.args.records _ c.requires (c.new.ensures.left ∙ ap (λ (l : List ℕ). Some l) c.in_ok-bytes.ensures.bytes) (c.in-Err.ensures.too_many (ap (λ (fault : LoadFault). Err fault) c.in-TooLong.is))

pub unreachable-requires-in-Survey : goal.unreachable-requires-in-Survey
unreachable-requires-in-Survey c =
    let found = c.in-Err.ensures.survey c.in-Survey.field-0 (ap (λ (fault : LoadFault). Err fault) c.in-Survey.is) in
    made-faultless c.args.start c.args.records _ _ _ _ found.0 _ c.requires (c.new.ensures.left ∙ ap (λ (l : List ℕ). Some l) c.in_ok-bytes.ensures.bytes) found.2 found.3
