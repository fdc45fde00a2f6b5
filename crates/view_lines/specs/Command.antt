-- The commands of a session's lines: `view` and the words of a view, `edit` and the words of an edit, `count` and the
-- words of a filter, and `save`.
use Rattle.std.specs.Prelude.{◌≡◌, ℕ, ◌≤◌, ◌==◌, ◌&&◌, true, List, [], ◌∷◌, length, codes, Option, Some, None, Result, Ok, Err, if◌then◌else◌}
use Rattle.std.specs.Str.{bytes_eq}
use Rattle.std.specs.Result.{result_map_both}
use Rattle.view_meaning.specs.Picture as picture
use Rattle.view_meaning.specs.Classes as meaning
use Rattle.view_text.specs.declared.fault.TextFault as text
use Rattle.view_text.specs.declared.fault.TextFault.TheVariants as unread
use Rattle.view_text.specs.ViewWords.{view_of, filter_of}
use Rattle.edit_ops.specs.declared.fault.EditFault as edit
use Rattle.edit_ops.specs.declared.fault.EditFault.TheVariants as unfit
use Rattle.edit_ops.specs.EditLine.{edit_of}
use Rattle.view_lines.specs.declared.command.Command as command
use Rattle.view_lines.specs.declared.command.Command.TheVariants.{View, Edit, Count, Save}
use Rattle.view_lines.specs.declared.holding.Holding.{Holding}
use Rattle.view_lines.specs.declared.holding.Holding.TheVariants.{Hold, Release}
use Rattle.view_lines.specs.declared.refusal.Refusal as refusal
use Rattle.view_lines.specs.declared.refusal.Refusal.TheVariants.{Line, Limit, NoColour, ClassRange, AlreadyHeld, NotHeld}

-- the command of a view for a point format, or why it is refused: a camera number out of its range goes before a
-- colouring that the format's records don't have
abbrev pub viewed : ℕ → Result picture.View text.TextFault → Result command.Command refusal.Refusal
viewed format (Ok view) = if picture.can_colour format view.colouring then Ok (View view) else Err NoColour
viewed format (Err (unread.Line at)) = Err Line
viewed format (Err (unread.Limit limit)) = Err (Limit limit)

-- the command of an edit, or why it is refused
abbrev pub edited : Result meaning.Edit edit.EditFault → Result command.Command refusal.Refusal
edited (Ok e) = Ok (Edit e)
edited (Err (unfit.Line at)) = Err Line
edited (Err (unfit.ClassRange class)) = Err ClassRange

-- the command of a line by its words, for a point format, or why it is refused: `save` has no other words
unfoldable pub command_of : List (List ℕ) → ℕ → Result command.Command refusal.Refusal
command_of [] format = Err Line
command_of (word ∷ others) format =
    if bytes_eq word (codes "view") then viewed format (view_of others)
    else if bytes_eq word (codes "edit") then edited (edit_of (word ∷ others) format)
    else if bytes_eq word (codes "count") then result_map_both Count (λ _. Line) (filter_of others)
    else if bytes_eq word (codes "save") && length others == 0 then Ok Save else Err Line

-- what a line asks of the version that is held, by its words: `hold` and `release` have no other words
unfoldable pub holding_of : List (List ℕ) → Option Holding
holding_of (word ∷ []) = if bytes_eq word (codes "hold") then Some Hold else if bytes_eq word (codes "release") then Some Release else None
holding_of _ = None

-- a point format has what a command needs: red, green and blue for a view that shows them, and room for the class of
-- an edit
abbrev pub FitsFormat : ℕ → command.Command → Type 0
FitsFormat format (View view) = picture.can_colour format view.colouring ≡ true
FitsFormat format (Edit e) = e.to ≤ meaning.top_class format
FitsFormat format _ = Unit

-- the code that answers a refused line
abbrev pub refusal_code : refusal.Refusal → ℕ
refusal_code Line = 1
refusal_code (Limit _) = 2
refusal_code NoColour = 3
refusal_code ClassRange = 4
refusal_code AlreadyHeld = 5
refusal_code NotHeld = 6
