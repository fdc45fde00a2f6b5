-- What the calls of one command alone answer.
use Rattle.std.specs.Prelude.{◌≡◌, ℕ, Bool, List, [], ◌∷◌, drop, Some, None}
use Rattle.survey_info.specs.Text.{info_text}
use Rattle.view_ends.specs.Desk.{Said, Untouched}
use Rattle.view_base.specs.Fitting.{word_at}
use Rattle.view_words.specs.CommandLine.{badword, IsLine}
use Rattle.view_text.specs.ViewWords.{fitting_view}
use Rattle.view_words.specs.declared.row.Row.TheVariants.{Draw, Info, Trial}
use Rattle.view_commands.specs.Texts.{DrawsView, MakesText}
use Rattle.view_commands.specs.Trial.{TriesLine}
use Rattle.view_commands.specs.declared.status.Status as status
use Rattle.view_commands.specs.declared.status.Status.TheVariants.{Words}

-- words are answered as those of a `draw`, whose view stands from place 4 on: by the first that is refused, or else as
-- a line
pub record AnswersDraw (tells : Bool) (old new : Said) (ws : List (List ℕ)) (ended : status.Status) : Type 0 where
  pub refused : (at : ℕ) → badword (Draw ∷ []) ws ≡ Some at → (ended ≡ Words at) × Untouched old new
  pub line : IsLine Draw ws → DrawsView tells old new ws (fitting_view (drop 4 ws)) ended

-- words are answered as those of an `info`: by the first that is refused, or else as a line
pub record AnswersInfo (tells : Bool) (old new : Said) (ws : List (List ℕ)) (ended : status.Status) : Type 0 where
  pub refused : (at : ℕ) → badword (Info ∷ []) ws ≡ Some at → (ended ≡ Words at) × Untouched old new
  pub line : IsLine Info ws → MakesText tells old new (word_at ws 1) (word_at ws 2) (λ b. None) info_text ended

-- words are answered as those of a `trial`: by the first that is refused, or else as a line
pub record AnswersTrial (tells : Bool) (old new : Said) (ws : List (List ℕ)) (ended : status.Status) : Type 0 where
  pub refused : (at : ℕ) → badword (Trial ∷ []) ws ≡ Some at → (ended ≡ Words at) × Untouched old new
  pub line : IsLine Trial ws → TriesLine tells old new ws ended
