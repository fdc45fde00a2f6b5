-- What a format has for a command that was read.
use Rattle.std.proofs.Common.{◌≡◌, ℕ, ◌≤◌, Bool, true, false, Option, Some, None, Ok, Err, IfOk, Result, List, inl, inr, subst}
use Rattle.std.specs.Option.{option_map_or}
use Rattle.std.specs.Prelude.{unwrap_or, if◌then◌else◌}
use Rattle.std.proofs.lemmas.Bool.{cases_lt, le-leb, lt-leb}
use Rattle.view_base.specs.Text.{digits}
use Rattle.view_base.specs.Fitting.{word_at, misfit}
use Rattle.view_meaning.specs.Classes as meaning
use Rattle.view_meaning.specs.Classes.{top_class}
use Rattle.edit_ops.specs.declared.fault.EditFault.TheVariants.{Line}
use Rattle.edit_ops.specs.EditLine.{fits, is_whole, ranged_edit, edit_of}
use Rattle.view_lines.specs.declared.command.Command.{Command}
use Rattle.view_lines.specs.declared.command.Command.TheVariants.{View, Edit, Count, Save}
use Rattle.view_lines.specs.declared.refusal.Refusal.{Refusal}
use Rattle.view_lines.specs.declared.refusal.Refusal.TheVariants as refused
use Rattle.view_lines.specs.Command.{FitsFormat}

ranged_edit-room : (ws : List (List ℕ)) (format to : ℕ) (e : meaning.Edit) → ranged_edit ws format to ≡ Ok e → e.to ≤ top_class format
ranged_edit-room ws format to e is =
    elim (cases_lt (top_class format) to) [
      | inl above ↦ let no = rw (lt-leb to (top_class format) above) at is in absurd (cc no)
      | inr within ↦
          let made = rw (le-leb to (top_class format) within) at is in
          let same : to ≡ e.to = cc in
          subst (λ (n : ℕ). n ≤ top_class format) same within
    ]

misfit-room : (fault : Option ℕ) (ws : List (List ℕ)) (format to : ℕ) (e : meaning.Edit) → option_map_or (λ at. Err (Line at)) fault (ranged_edit ws format to) ≡ Ok e → e.to ≤ top_class format
misfit-room (Some fault) ws format to e is = absurd (cc is)
misfit-room None ws format to e is = ranged_edit-room ws format to e is

-- the class of an edit of a line is at most the format's greatest
pub edit_of-room : (ws : List (List ℕ)) (format : ℕ) (e : meaning.Edit) → edit_of ws format ≡ Ok e → e.to ≤ top_class format
unfolding edit_of
edit_of-room ws format e is = misfit-room (misfit fits is_whole ws) ws format (unwrap_or (digits (word_at ws 8)) 0) e is

-- a save needs nothing of the format
pub save-fits : (alone : Bool) (format : ℕ) (read : Result Command Refusal) → read ≡ (if alone then Ok Save else Err refused.Line) → IfOk read (FitsFormat format)
save-fits true format (Ok (View view)) is = absurd (cc is)
save-fits true format (Ok (Edit e)) is = absurd (cc is)
save-fits true format (Ok (Count filter)) is = tt
save-fits true format (Ok Save) is = tt
save-fits true format (Err refusal) is = tt
save-fits false format (Ok command) is = absurd (cc is)
save-fits false format (Err refusal) is = tt
