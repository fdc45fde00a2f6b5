-- What an edit picks.
use Rattle.std.proofs.Common.{◌≡◌, ◌&&◌, ℕ, ◌≤◌, Bool, true, false, if◌then◌else◌, List, ◌++◌, ◌∷◌, [], length, refl, sym, ◌∙◌, ap, subst}
use Rattle.view_base.specs.declared.place.Box3.{Box3}
use Rattle.view_base.specs.declared.place.Point.{Point}
use Rattle.view_meaning.specs.Survey.{format_of, record_count}
use Rattle.view_meaning.specs.Classes.{Edit, class_after, has, in_box, top_class}
use Rattle.class_pages.specs.Boxes.{covers, meets}
use Rattle.class_pages.specs.Choosing.{by_edit, IsChosen, IsEven, IsSettled, Leaves}
use Rattle.class_pages.specs.Edited.{after_edit, IsEdited}
use Rattle.class_pages.specs.Fitting.{EachFits}
use Rattle.class_pages.proofs.Areas.{apart, covered}
use Rattle.class_pages.proofs.Fitting.{after_edit-fits}
use Rattle.class_pages.proofs.Steps.{after_edit-classes}

-- in a box that its area does not meet it picks each class for itself
pub edit_leaves : (e : Edit) (area : Box3) → meets area e.area ≡ false → Leaves (by_edit e) area
edit_leaves e area far = λ p class here. ap (λ (t : Bool). if (t && has e.from class) then e.to else class) (apart area e.area p far here)

-- in a box that its area covers it picks the same at each point
pub edit_even : (e : Edit) (area : Box3) → covers e.area area ≡ true → IsEven (by_edit e) area
edit_even e area whole = λ p q class one two.
    ap (λ (t : Bool). if (t && has e.from class) then e.to else class) (covered e.area area p whole one ∙ sym (covered e.area area q whole two))

-- an edit made twice is that edit
pub edit_settled : (e : Edit) → IsSettled (by_edit e)
edit_settled e = λ p c. once_more p c
  where
    either : (t : Bool) (v : ℕ) → (if t then v else v) ≡ v
    either true v = refl
    either false v = refl

    once_more : (p : Point) (c : ℕ) → class_after p (class_after p c e) e ≡ class_after p c e
    once_more p c = by (in_box e.area p && has e.from c) refl
      where
        by : (t : Bool) → (in_box e.area p && has e.from c) ≡ t → class_after p (class_after p c e) e ≡ class_after p c e
        by true is =
            let made : class_after p c e ≡ e.to = ap (λ (t : Bool). if t then e.to else c) is in
            ap (λ (x : ℕ). class_after p x e) made ∙ either (in_box e.area p && has e.from e.to) e.to ∙ sym made
        by false is =
            let made : class_after p c e ≡ c = ap (λ (t : Bool). if t then e.to else c) is in
            ap (λ (x : ℕ). class_after p x e) made

-- the classes that an edit picks are those after it
pub edited_is : (b : List ℕ) (e : Edit) (old new : List ℕ) (differ : ℕ) → e.to ≤ top_class (format_of b) → IsChosen b (by_edit e) old new differ → IsEdited b e old new differ
edited_is b e old new differ room h = record {
  classes = h.classes;
  edits = λ edits is. h.classes ∙ ap (λ (l : List ℕ). after_edit b l e) is ∙ after_edit-classes b edits e;
  count = h.count;
  size = h.size;
  top = λ fits. subst (EachFits (format_of b)) (sym h.classes) (after_edit-fits b old e (format_of b) room fits);
}
