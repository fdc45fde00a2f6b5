-- The text of a class list, one run after another.
use Rattle.std.proofs.Common.{◌≡◌, ℕ, ◌+◌, Bool, true, false, cond, eqb, List, [], ◌∷◌, ◌++◌, map, refl, sym, inl, inr, ap, ◌∙◌, append_assoc, arith}
use Rattle.std.specs.List.{join_with_byte, flat_map}
use Rattle.std.proofs.lemmas.List.{append-nil}
use Rattle.std.proofs.lemmas.Bool.{ne_eqb, cases_Bool}
use Rattle.std.specs.Prelude.{codes}
use Rattle.std.specs.Str.{bytes_eq}
use Rattle.view_meaning.specs.Classes.{all_classes}
use Rattle.class_bits.specs.ClassSet.{members}
use Rattle.edit_ops.specs.EditLine.{run_text, runs, classes_text}
use Rattle.edit_ops.specs.Reading.{members_from}

-- runs as they follow other runs: with a comma before each
abbrev pub after_comma : List (ℕ × ℕ) → List ℕ
after_comma rs = flat_map (λ run. 44 ∷ run_text run) rs

-- the text of the runs from a class on, which is the whole list from class 0 on
abbrev pub text_from : ℕ → List (ℕ × ℕ) → List ℕ
text_from from rs = cond (eqb from 0) (join_with_byte 44 (map run_text rs)) (after_comma rs)

pub join-first : (run : ℕ × ℕ) (rs : List (ℕ × ℕ)) → join_with_byte 44 (map run_text (run ∷ rs)) ≡ run_text run ++ after_comma rs
join-first run [] = sym (append-nil (run_text run))
join-first run (next ∷ rs) = ap (λ text. run_text run ++ 44 ∷ text) (join-first next rs)

-- the text of an item, after a comma where it is not the first
abbrev pub item_text : Bool → ℕ × ℕ → List ℕ
item_text is_first run = cond is_first (run_text run) (44 ∷ run_text run)

-- the text of the runs from a class on is the first run's item, and the text from its end on
pub text_from-more : (run : ℕ × ℕ) (rs : List (ℕ × ℕ)) (from : ℕ) → text_from from (run ∷ rs) ≡ item_text (eqb from 0) run ++ text_from (run.1 + 1) rs
text_from-more run rs from =
    let rest : text_from (run.1 + 1) rs ≡ after_comma rs = rw (ne_eqb (run.1 + 1) 0 (λ e. omega arith)) refl in
    elim (cases_Bool (eqb from 0)) [
      | inl first ↦ rw (first, rest) (join-first run rs)
      | inr later ↦ rw (later, rest) refl
    ]

pub text_from-none : (from : ℕ) → text_from from [] ≡ []
text_from-none from = elim (cases_Bool (eqb from 0)) [ inl first ↦ rw first refl | inr later ↦ rw later refl ]

pub members-from_0 : (set : List ℕ) → members_from set 0 ≡ members set
unfolding members_from members
members-from_0 set = refl

-- one item more
pub one_item : (set : List ℕ) (from first last : ℕ) (start out new whole : List ℕ) → runs (members_from set from) ≡ (first, last) ∷ runs (members_from set (last + 1)) → out ++ text_from from (runs (members_from set from)) ≡ start ++ whole → new ≡ out ++ item_text (eqb from 0) (first, last) → new ++ text_from (last + 1) (runs (members_from set (last + 1))) ≡ start ++ whole
one_item set from first last start out new whole next so_far added =
    let rest = text_from (last + 1) (runs (members_from set (last + 1))) in
    let item = item_text (eqb from 0) (first, last) in
    ap (λ text. text ++ rest) added ∙ append_assoc out item rest
    ∙ ap (λ text. out ++ text) (sym (ap (text_from from) next ∙ text_from-more (first, last) (runs (members_from set (last + 1))) from)) ∙ so_far

-- no item more
pub no_item : (set : List ℕ) (from : ℕ) (out whole : List ℕ) → members_from set from ≡ [] → out ++ text_from from (runs (members_from set from)) ≡ whole → out ≡ whole
no_item set from out whole none so_far =
    sym (append-nil out) ∙ ap (λ text. out ++ text) (sym (ap (λ classes. text_from from (runs classes)) none ∙ text_from-none from)) ∙ so_far

pub classes_text-all : (set : List ℕ) → bytes_eq set all_classes ≡ true → classes_text set ≡ codes "all"
unfolding classes_text
classes_text-all set all = rw all refl

pub classes_text-runs : (set : List ℕ) → bytes_eq set all_classes ≡ false → classes_text set ≡ text_from 0 (runs (members_from set 0))
unfolding classes_text
classes_text-runs set some = rw (some, members-from_0) refl
