-- What fits each place of an edit line, and what a line is by its misfit and its fields.
use Rattle.std.proofs.Common.{◌≡◌, ℕ, ℤ, pos, ◌<◌, ◌≤◌, Bool, true, false, Option, Some, None, Result, Ok, Err, IfOk, List, refl, arith}
use Rattle.std.specs.Prelude.{codes, is_some, unwrap_or}
use Rattle.std.specs.Str.{bytes_eq}
use Rattle.std.proofs.lemmas.Bool.{ne_eqb, le-leb, lt-leb}
use Rattle.view_base.specs.declared.place.Box3.{Box3}
use Rattle.view_base.specs.Text.{digits}
use Rattle.view_base.specs.Fitting.{word_at, misfit}
use Rattle.view_meaning.specs.Classes.{top_class}
use Rattle.class_bits.specs.ClassSet.{class_list}
use Rattle.edit_ops.specs.declared.fault.EditFault.TheVariants.{Line, ClassRange}
use Rattle.edit_ops.specs.EditLine.{coordinate, fits, is_whole, point_at, edit_of}

pub fits-keyword : (word : List ℕ) → fits 0 word ≡ bytes_eq word (codes "edit")
unfolding fits
fits-keyword word = refl

pub fits-coordinate : (place : ℕ) (word : List ℕ) → 1 ≤ place → place ≤ 6 → fits place word ≡ is_some (coordinate word)
unfolding fits
fits-coordinate place word first last = rw (ne_eqb place 0 (omega arith), le-leb place 6 last) refl

pub fits-classes : (word : List ℕ) → fits 7 word ≡ is_some (class_list word)
unfolding fits
fits-classes word = refl

pub fits-digits : (word : List ℕ) → fits 8 word ≡ is_some (digits word)
unfolding fits
fits-digits word = refl

pub fits-further : (word : List ℕ) → fits 9 word ≡ false
unfolding fits
fits-further word = refl

pub edit_of-misfit : (ws : List (List ℕ)) (format at : ℕ) → misfit fits is_whole ws ≡ Some at → edit_of ws format ≡ Err (Line at)
unfolding edit_of
edit_of-misfit ws format at known = rw known refl

pub edit_of-above : (ws : List (List ℕ)) (format to : ℕ) → misfit fits is_whole ws ≡ None → digits (word_at ws 8) ≡ Some to → top_class format < to → edit_of ws format ≡ Err (ClassRange (pos to))
unfolding edit_of
edit_of-above ws format to none is above = rw (none, is, lt-leb to (top_class format) above) refl

pub edit_of-edit : (ws : List (List ℕ)) (format to : ℕ) (area : Box3) (from : List ℕ) → misfit fits is_whole ws ≡ None → area.min ≡ point_at ws 1 → area.max ≡ point_at ws 4 → class_list (word_at ws 7) ≡ Some from → digits (word_at ws 8) ≡ Some to → to ≤ top_class format → edit_of ws format ≡ Ok (record { area = area; from = from; to = to })
unfolding edit_of
edit_of-edit ws format to area from none least greatest set is within =
    rw (none, is, le-leb to (top_class format) within, set, ← least, ← greatest) refl
