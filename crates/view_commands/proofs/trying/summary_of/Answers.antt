use Rattle.std.proofs.Common.{◌∙◌, ap}
use Rattle.survey_make.proofs.Laid.{read_format}
use Rattle.view_meaning.specs.Survey.{format_of}
use Rattle.view_commands.specs.declared.script.TheConstants.{FORMAT}
use Rattle.view_commands.proofs.trying.summary_of.Goals as goal

pub replies_over-requires-clause-format : goal.replies_over-requires-clause-format
replies_over-requires-clause-format g c _ _ = ap format_of (c.in_ok-scene.ensures.survey ∙ c.in_ok-survey.ensures) ∙ read_format c.args.start c.args.records FORMAT
