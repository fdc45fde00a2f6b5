-- The one row whose words fit, and the row that words begin.
use Rattle.std.proofs.Common.{◌≡◌, ℕ, List, [], ◌∷◌, Bool, Option, Some, None, drop, sym, ◌∙◌, subst}
use Rattle.view_words.specs.CommandLine.{IsLine, all_rows, badword, row_in}
use Rattle.view_words.specs.declared.row.Row.{Row}
use Rattle.view_words.specs.declared.row.Row.TheVariants.{Draw, Info, Trial}
use Rattle.view_words.proofs.Refusals.{row_in-line, badword-row, badword-unbegun}
use Rattle.view_ends.specs.Desk.{Said, Untouched}
use Rattle.view_commands.specs.Calls.{AnswersDraw, AnswersInfo, AnswersTrial}
use Rattle.view_commands.specs.Run.{Runs, RunsLine, IsNothing}
use Rattle.view_commands.specs.Steps.{RunsRow}
use Rattle.view_commands.specs.Trial.{TriesLine}
use Rattle.view_commands.specs.Texts.{DrawsView, MakesText}
use Rattle.view_base.specs.Fitting.{word_at}
use Rattle.view_text.specs.ViewWords.{fitting_view}
use Rattle.survey_info.specs.Text.{info_text}
use Rattle.view_commands.specs.declared.status.Status as status
use Rattle.view_commands.specs.declared.status.Status.TheVariants.{Words}
use Rattle.view_commands.specs.declared.told.Ended.{Ended}

-- a command that ended so before it touched a file, and tells nothing
abbrev pub EndsAtOnce : Said → Said → status.Status → Ended → Type 0
EndsAtOnce old new is ended = (ended.status ≡ is) × Untouched old new × IsNothing ended.told

no_misfit : (o : Option ℕ) (at : ℕ) → o ≡ None → o ≡ Some at → ⊥
no_misfit o at none is = absurd (cc (none, is))

one_misfit : (o : Option ℕ) (at other : ℕ) → o ≡ Some at → o ≡ Some other → at ≡ other
one_misfit o at other is also = cc (is, also)

one_row : (o : Option Row) (row other : Row) → o ≡ Some row → o ≡ Some other → row ≡ other
one_row o row other is also = cc (is, also)

-- a command line that was answered as its row's
pub runs-row : (tells : Bool) (old new : Said) (ws : List (List ℕ)) (ended : Ended) (row : Row) → row_in all_rows ws ≡ Some row → RunsRow row tells old new ws ended → Runs tells old new ws ended
runs-row tells old new ws ended row begun answered = record {
  refused = λ at is. answered.refused at (badword-row all_rows row ws begun ∙ is);
  line = λ other line. let same : row ≡ other = one_row (row_in all_rows ws) row other begun (row_in-line other ws line) in
      subst (λ (row : Row). RunsLine row tells old new ws ended) same (answered.line (subst (λ (row : Row). IsLine row ws) (sym same) line));
}

-- a command line that begins no row
pub runs-none : (tells : Bool) (old new : Said) (ws : List (List ℕ)) (ended : Ended) → row_in all_rows ws ≡ None → EndsAtOnce old new (Words 0) ended → Runs tells old new ws ended
runs-none tells old new ws ended none at_once = record {
  refused = λ at is. subst (λ (at : ℕ). EndsAtOnce old new (Words at) ended) (one_misfit (badword all_rows ws) 0 at (badword-unbegun all_rows ws none) is) at_once;
  line = λ row line. absurd (begun (row_in all_rows ws) row none (row_in-line row ws line));
}
  where
    begun : (o : Option Row) (row : Row) → o ≡ None → o ≡ Some row → ⊥
    begun o row none is = absurd (cc (none, is))

-- a line of a row that fits
pub row-fits : (tells : Bool) (old new : Said) (ws : List (List ℕ)) (ended : Ended) (row : Row) → IsLine row ws → RunsLine row tells old new ws ended → RunsRow row tells old new ws ended
row-fits tells old new ws ended row fits answered = record {
  refused = λ at is. absurd (no_misfit (badword (row ∷ []) ws) at fits is);
  line = λ line. answered;
}

-- words of a row that are refused
pub row-refused : (tells : Bool) (old new : Said) (ws : List (List ℕ)) (ended : Ended) (row : Row) (at : ℕ) → badword (row ∷ []) ws ≡ Some at → EndsAtOnce old new (Words at) ended → RunsRow row tells old new ws ended
row-refused tells old new ws ended row at bad at_once = record {
  refused = λ other also. subst (λ (at : ℕ). EndsAtOnce old new (Words at) ended) (one_misfit (badword (row ∷ []) ws) at other bad also) at_once;
  line = λ line. absurd (no_misfit (badword (row ∷ []) ws) at line bad);
}

-- a `draw` that tells nothing beside its status
pub row-draw : (tells : Bool) (old new : Said) (ws : List (List ℕ)) (is : status.Status) (ended : Ended) → ended.status ≡ is → IsNothing ended.told → AnswersDraw tells old new ws is → RunsRow Draw tells old new ws ended
row-draw tells old new ws is ended same nothing answered = record {
  refused = λ at bad. let refused = answered.refused at bad in (same ∙ refused.0, refused.1, nothing);
  line = λ line. (subst (λ (s : status.Status). DrawsView tells old new ws (fitting_view (drop 4 ws)) s) (sym same) (answered.line line), nothing);
}

-- an `info`
pub row-info : (tells : Bool) (old new : Said) (ws : List (List ℕ)) (is : status.Status) (ended : Ended) → ended.status ≡ is → IsNothing ended.told → AnswersInfo tells old new ws is → RunsRow Info tells old new ws ended
row-info tells old new ws is ended same nothing answered = record {
  refused = λ at bad. let refused = answered.refused at bad in (same ∙ refused.0, refused.1, nothing);
  line = λ line. (subst (λ (s : status.Status). MakesText tells old new (word_at ws 1) (word_at ws 2) (λ (b : List ℕ). None) info_text s) (sym same) (answered.line line), nothing);
}

-- a `trial`
pub row-trial : (tells : Bool) (old new : Said) (ws : List (List ℕ)) (is : status.Status) (ended : Ended) → ended.status ≡ is → IsNothing ended.told → AnswersTrial tells old new ws is → RunsRow Trial tells old new ws ended
row-trial tells old new ws is ended same nothing answered = record {
  refused = λ at bad. let refused = answered.refused at bad in (same ∙ refused.0, refused.1, nothing);
  line = λ line. (subst (λ (s : status.Status). TriesLine tells old new ws s) (sym same) (answered.line line), nothing);
}
