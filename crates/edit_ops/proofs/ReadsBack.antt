-- The canonical line of an edit is read as that edit.
use Rattle.std.proofs.Common.{List, ◌≡◌, ℕ, ℤ, ◌≤◌, true, false, None, Ok, [], ◌∷◌, refl, ap, ◌∙◌, arith, decimal, FitsSigned}
use Rattle.std.specs.Prelude.{codes, is_some}
use Rattle.std.specs.Fmt.{signed_decimal}
use Rattle.std.specs.Int.{w32}
use Rattle.std.specs.List.{All}
use Rattle.std.proofs.lemmas.Bool.{le-leb}
use Rattle.std.proofs.lemmas.Fmt.{decimal_nonempty}
use Rattle.view_base.specs.Text.{is_blank, words}
use Rattle.view_meaning.specs.Classes.{Edit, top_class}
use Rattle.edit_ops.specs.Edit.{IsPoint}
use Rattle.class_bits.specs.Kept.{HasClasses}
use Rattle.view_base.specs.Fitting.{misfit}
use Rattle.edit_ops.specs.EditLine.{fits, is_whole, ranged_edit, edit_of}
use Rattle.edit_ops.specs.EditLine.{canonical, classes_text}
use Rattle.edit_ops.proofs.Joined.{words-joined}
use Rattle.edit_ops.proofs.EditLines.{fits-keyword, fits-coordinate, fits-classes, fits-digits}
use Rattle.edit_ops.proofs.ListReads.{class_list-classes_text, classes_text-clear, classes_text-some}
use Rattle.edit_ops.proofs.NumberText.{coordinate-signed_decimal, signed_decimal-clear, signed_decimal-some, digits-decimal, decimal-clear, All-cons}

-- what the fields of an edit are
pub record IsEdit (e : Edit) : Type 0 where
  pub min : IsPoint e.area.min
  pub max : IsPoint e.area.max
  pub from : HasClasses e.from
  pub to : e.to ≤ 255

-- the words of an edit's canonical line
abbrev canonical_words : Edit → List (List ℕ)
canonical_words e =
    codes "edit" ∷ signed_decimal e.area.min.x ∷ signed_decimal e.area.min.y ∷ signed_decimal e.area.min.z
    ∷ signed_decimal e.area.max.x ∷ signed_decimal e.area.max.y ∷ signed_decimal e.area.max.z
    ∷ classes_text e.from ∷ decimal e.to ∷ []

edit-clear : All (λ c. is_blank c ≡ false) (codes "edit")
edit-clear = All-cons is_blank 101 (100 ∷ 105 ∷ 116 ∷ []) refl (All-cons is_blank 100 (105 ∷ 116 ∷ []) refl (All-cons is_blank 105 (116 ∷ []) refl (All-cons is_blank 116 [] refl (λ k d inside. absurd (omega arith)))))

words-canonical : (e : Edit) → IsEdit e → words (canonical e) ≡ canonical_words e
unfolding canonical
words-canonical e is =
    words-joined (codes "edit") _
    (edit-clear, (signed_decimal-clear _ is.min.x, (signed_decimal-clear _ is.min.y, (signed_decimal-clear _ is.min.z, (signed_decimal-clear _ is.max.x, (signed_decimal-clear _ is.max.y, (signed_decimal-clear _ is.max.z, (classes_text-clear e.from, (decimal-clear e.to (omega (arith, is.to)), tt)))))))))
    (omega arith, (signed_decimal-some _ is.min.x, (signed_decimal-some _ is.min.y, (signed_decimal-some _ is.min.z, (signed_decimal-some _ is.max.x, (signed_decimal-some _ is.max.y, (signed_decimal-some _ is.max.z, (classes_text-some e.from is.from.some, (decimal_nonempty e.to (omega (arith, is.to)), tt)))))))))

coordinate-fits : (place : ℕ) (z : ℤ) → 1 ≤ place → place ≤ 6 → FitsSigned w32 z → fits place (signed_decimal z) ≡ true
coordinate-fits place z first last is = fits-coordinate place (signed_decimal z) first last ∙ rw (coordinate-signed_decimal z is) refl

misfit-canonical : (e : Edit) → IsEdit e → misfit fits is_whole (canonical_words e) ≡ None
unfolding misfit
misfit-canonical e is =
    let set = fits-classes (classes_text e.from) ∙ ap is_some (class_list-classes_text e.from is.from.words is.from.some) in
    let to = fits-digits (decimal e.to) ∙ ap is_some (digits-decimal e.to (omega (arith, is.to))) in
    rw (fits-keyword (codes "edit"), coordinate-fits 1 _ (omega arith) (omega arith) is.min.x, coordinate-fits 2 _ (omega arith) (omega arith) is.min.y, coordinate-fits 3 _ (omega arith) (omega arith) is.min.z, coordinate-fits 4 _ (omega arith) (omega arith) is.max.x, coordinate-fits 5 _ (omega arith) (omega arith) is.max.y, coordinate-fits 6 _ (omega arith) (omega arith) is.max.z, set, to) refl

ranged_edit-canonical : (e : Edit) (format : ℕ) → IsEdit e → e.to ≤ top_class format → ranged_edit (canonical_words e) format e.to ≡ Ok e
ranged_edit-canonical e format is within =
    rw (coordinate-signed_decimal _ is.min.x, coordinate-signed_decimal _ is.min.y, coordinate-signed_decimal _ is.min.z, coordinate-signed_decimal _ is.max.x, coordinate-signed_decimal _ is.max.y, coordinate-signed_decimal _ is.max.z, class_list-classes_text e.from is.from.words is.from.some, le-leb e.to (top_class format) within) refl

-- reading the canonical line gives the edit again
pub edit_of-canonical : (e : Edit) (format : ℕ) → IsEdit e → e.to ≤ top_class format → edit_of (words (canonical e)) format ≡ Ok e
unfolding edit_of
edit_of-canonical e format is within =
    rw (words-canonical e is, misfit-canonical e is, digits-decimal e.to (omega (arith, is.to))) (ranged_edit-canonical e format is within)
