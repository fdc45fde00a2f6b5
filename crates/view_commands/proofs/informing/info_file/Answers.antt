use Rattle.std.proofs.Common.{rules, refl, List, ℕ, None}
use Rattle.survey_info.specs.Text.{info_text}
use Rattle.view_commands.proofs.Written.{text-none, text-written}
use Rattle.view_commands.proofs.informing.info_file.Goals as goal

pub returns-in-Err : goal.returns-in-Err
returns-in-Err g c = text-none _ _ _ _ _ (λ (b : List ℕ). None) info_text _ c.in-Err.ensures.refused

pub returns-in-Ok-text_of : goal.returns-in-Ok-text_of
returns-in-Ok-text_of g c =
    text-written _ _ _ _ _ _ (λ (b : List ℕ). None) info_text c.in-Ok.survey c.as_slice.result.now _ (search rules) refl c.in-Ok.ensures.laid c.in-Ok.ensures.read c.in-Ok.ensures.took c.write_text.ensures.written c.write_text.ensures.only
