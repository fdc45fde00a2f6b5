-- The command of a line, by its first word.
use Rattle.std.proofs.Common.{◌≡◌, ◌∙◌, ℕ, Bool, true, false, List, [], ◌∷◌, length, Ok, Err, refl, sym, ap}
use Rattle.std.specs.Prelude.{codes, ◌==◌, if◌then◌else◌}
use Rattle.std.specs.Result.{result_map_both}
use Rattle.std.specs.Str.{bytes_eq}
use Rattle.view_base.specs.Text.{words}
use Rattle.view_text.specs.ViewWords.{view_of, filter_of}
use Rattle.edit_ops.specs.EditLine.{edit_of}
use Rattle.view_lines.specs.declared.command.Command.TheVariants.{Count, Save}
use Rattle.view_lines.specs.declared.refusal.Refusal.TheVariants.{Line}
use Rattle.view_lines.specs.Command.{viewed, edited, command_of}

-- whether a word is a text, by an answer that compared it with that text
pub bytes_eq-answered : (word literal text : List ℕ) (answer truth : Bool) → answer ≡ bytes_eq word literal → literal ≡ text → answer ≡ truth → bytes_eq word text ≡ truth
bytes_eq-answered word literal text answer truth told is known = ap (bytes_eq word) (sym is) ∙ sym told ∙ known

pub command_of-wordless : (line : List ℕ) (format : ℕ) → words line ≡ [] → command_of (words line) format ≡ Err Line
unfolding command_of
command_of-wordless line format none = rw none refl

pub command_of-view : (line word : List ℕ) (others : List (List ℕ)) (format : ℕ) → words line ≡ word ∷ others → bytes_eq word (codes "view") ≡ true → command_of (words line) format ≡ viewed format (view_of others)
unfolding command_of
command_of-view line word others format is view = rw is (rw view refl)

pub command_of-edit : (line word : List ℕ) (others : List (List ℕ)) (format : ℕ) → words line ≡ word ∷ others → bytes_eq word (codes "view") ≡ false → bytes_eq word (codes "edit") ≡ true → command_of (words line) format ≡ edited (edit_of (words line) format)
unfolding command_of
command_of-edit line word others format is view edit = rw is (rw (view, edit) refl)

pub command_of-count : (line word : List ℕ) (others : List (List ℕ)) (format : ℕ) → words line ≡ word ∷ others → bytes_eq word (codes "view") ≡ false → bytes_eq word (codes "edit") ≡ false → bytes_eq word (codes "count") ≡ true → command_of (words line) format ≡ result_map_both Count (λ _. Line) (filter_of others)
unfolding command_of
command_of-count line word others format is view edit count = rw is (rw (view, edit, count) refl)

pub command_of-save : (line word : List ℕ) (others : List (List ℕ)) (format : ℕ) → words line ≡ word ∷ others → bytes_eq word (codes "view") ≡ false → bytes_eq word (codes "edit") ≡ false → bytes_eq word (codes "count") ≡ false → bytes_eq word (codes "save") ≡ true
    → command_of (words line) format ≡ (if length others == 0 then Ok Save else Err Line)
unfolding command_of
command_of-save line word others format is view edit count save = rw is (rw (view, edit, count, save) refl)

pub command_of-other : (line word : List ℕ) (others : List (List ℕ)) (format : ℕ) → words line ≡ word ∷ others → bytes_eq word (codes "view") ≡ false → bytes_eq word (codes "edit") ≡ false → bytes_eq word (codes "count") ≡ false → bytes_eq word (codes "save") ≡ false
    → command_of (words line) format ≡ Err Line
unfolding command_of
command_of-other line word others format is view edit count save = rw is (rw (view, edit, count, save) refl)
