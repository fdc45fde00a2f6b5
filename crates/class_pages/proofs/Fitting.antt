-- Classes that a format has room for, record by record and after an edit.
use Rattle.std.proofs.Common.{◌≡◌, ◌&&◌, ◌≢◌, ℕ, suc, ◌+◌, ◌-◌, ◌*◌, ◌<◌, ◌≤◌, Bool, true, false, if◌then◌else◌, List, length, get_or, set, map, inl, inr, sym, ◌∙◌, ap, subst, arith, All}
use Rattle.std.proofs.lemmas.Bool.{cases_lt}
use Rattle.std.proofs.lemmas.Bool.Decides.{nat_tests}
use Rattle.std.proofs.lemmas.List.{get_or_default, get_or_past, get_or-set_same, get_or-set_other}
use Rattle.std.proofs.lemmas.List.FromFn.{get_or-map-range_with_len, length-map-range_with_len}
use Rattle.std.specs.List.{range_with_len}
use Rattle.view_meaning.specs.Survey.{record_count, point_of}
use Rattle.view_meaning.specs.Classes.{Edit, in_box, has, class_after, class_at, classes, top_class}
use Rattle.class_pages.specs.Choosing.{chosen}
use Rattle.class_pages.specs.Edited.{after_edit}
use Rattle.class_pages.specs.Fitting.{EachFits}
use Rattle.class_pages.specs.Pages.{page_of}
use Rattle.class_pages.proofs.Pages.{get_or-page_of}

-- the first i classes are at most the format's greatest
abbrev pub FitsBelow : ℕ → ℕ → List ℕ → Type 0
FitsBelow i format cs = (k : ℕ) → k < i → get_or cs k 0 ≤ top_class format

pub fits_nothing : (format : ℕ) (cs : List ℕ) → FitsBelow 0 format cs
fits_nothing format cs = λ k lt. absurd (omega (arith, lt))

-- one more class
pub fits_more : (i j format known class : ℕ) (cs : List ℕ) → j ≡ suc i → i < length cs → known ≡ format → class ≤ top_class known → FitsBelow i format cs → FitsBelow j format (set cs i class)
fits_more i j format known class cs next within same small h = λ k lt. elim (cases_lt k i) [
  | inl below ↦ let other : k ≢ i = omega arith in subst (λ (n : ℕ). n ≤ top_class format) (sym (get_or-set_other cs i k class 0 other)) (h k below)
  | inr least ↦ let here : k ≡ i = omega arith in
      let is : get_or (set cs i class) k 0 ≡ class = ap (λ (k : ℕ). get_or (set cs i class) k 0) here ∙ get_or-set_same cs i class 0 within in
      subst (λ (n : ℕ). n ≤ top_class format) (sym is) (subst (λ (n : ℕ). class ≤ top_class n) same small)
]

-- one more page
pub fits_page : (k n format : ℕ) (cs page : List ℕ) → n ≡ suc k → page ≡ page_of cs k → EachFits format page → FitsBelow (k * 4096) format cs → FitsBelow (n * 4096) format cs
fits_page k n format cs page next is fits h = λ i lt. elim (cases_lt i (k * 4096)) [
  | inl below ↦ h i below
  | inr over ↦
      let place : k * 4096 + (i - k * 4096) ≡ i = omega (arith, over) in
      let within : i - k * 4096 < 4096 = omega (arith, lt, next, over) in
      let here : get_or page (i - k * 4096) 0 ≡ get_or cs i 0 = ap (λ (l : List ℕ). get_or l (i - k * 4096) 0) is ∙ get_or-page_of cs k (i - k * 4096) 0 within ∙ ap (λ (m : ℕ). get_or cs m 0) place in
      subst (λ (c : ℕ). c ≤ top_class format) here (one (i - k * 4096))
]
  where
    one : (j : ℕ) → get_or page j 0 ≤ top_class format
    one j = elim (cases_lt j (length page)) [
      | inl inside ↦ fits j 0 inside
      | inr past ↦ let none : get_or page j 0 ≡ 0 = get_or_past page j 0 past in omega (arith, none)
    ]

-- all classes
pub fits_all : (n format : ℕ) (cs : List ℕ) → length cs ≤ n → FitsBelow n format cs → EachFits format cs
fits_all n format cs size h = λ k d lt. subst (λ (c : ℕ). c ≤ top_class format) (sym (get_or_default cs k d 0 lt)) (h k (omega (arith, lt, size)))

one_of : (changes : Bool) (to class top : ℕ) → to ≤ top → class ≤ top → (if changes then to else class) ≤ top
one_of true to class top new old = new
one_of false to class top new old = old

-- an edit gives no class that the format has no room for
pub after_edit-fits : (b cs : List ℕ) (e : Edit) (format : ℕ) → e.to ≤ top_class format → EachFits format cs → EachFits format (after_edit b cs e)
unfolding chosen
after_edit-fits b cs e format room fits = λ k d lt.
    let each = λ (i : ℕ). class_after (point_of b i) (get_or cs i 0) e in
    let within : k < length cs = let size : length (map each (range_with_len 0 (length cs))) ≡ length cs = length-map-range_with_len each 0 (length cs) in omega (arith, lt, size) in
    subst (λ (c : ℕ). c ≤ top_class format) (sym (get_or-map-range_with_len each 0 (length cs) k k d within (omega arith)))
    (one_of (in_box e.area (point_of b k) && has e.from (get_or cs k 0)) e.to (get_or cs k 0) (top_class format) room (fits k 0 within))

-- classes that a format has room for are bytes
top_byte : (format : ℕ) → top_class format < 256
top_byte format = grind (arith, nat_tests)

pub fits-bytes : (format : ℕ) (cs : List ℕ) → EachFits format cs → All (λ class. class < 256) cs
fits-bytes format cs fits = λ k d lt. let small : get_or cs k d ≤ top_class format = fits k d lt in omega (arith, small, top_byte format)

-- an edit gives no class that is not a byte
pub after_edit-bytes : (b cs : List ℕ) (e : Edit) (format : ℕ) → e.to ≤ top_class format → All (λ class. class < 256) cs → All (λ class. class < 256) (after_edit b cs e)
after_edit-bytes b cs e format room bytes =
    fits-bytes 6 (after_edit b cs e) (after_edit-fits b cs e 6 (omega (arith, room, top_byte format)) (λ k d lt. let small : get_or cs k d < 256 = bytes k d lt in omega (arith, small)))

-- a survey has as many classes as records
pub length-classes : (b : List ℕ) (edits : List Edit) → length (classes b edits) ≡ record_count b
unfolding classes
length-classes b edits = length-map-range_with_len (class_at b edits) 0 (record_count b)
