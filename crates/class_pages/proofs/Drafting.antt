-- Pages of which one class on one page changes.
use Rattle.std.proofs.Common.{◌≡◌, ◌≢◌, ℕ, suc, ◌+◌, ◌-◌, ◌*◌, ◌/◌, ◌%◌, ◌<◌, min, List, [], ◌∷◌, ◌++◌, length, get_or, set, take, drop, inl, inr, refl, sym, ◌∙◌, ap, subst, arith, All, Result, Ok, Err, OnErr, ◌==◌, if◌then◌else◌}
use Rattle.std.proofs.lemmas.Bool.{cases_eq}
use Rattle.std.proofs.lemmas.List.{ext_get_or, length-set, get_or-set_same, get_or-set_other, set-get_or, take_all}
use Rattle.std.proofs.lemmas.List.Elements.{All-set}
use Rattle.std.proofs.Math.Seq.{take-add}
use Rattle.std.specs.Prelude.{IfOk}
use Rattle.std.specs.List.{flat_map}
use Rattle.std.proofs.lemmas.Bool.Decides.{nat_tests}
use Rattle.view_base.specs.declared.place.Point.{Point}
use Rattle.view_ends.proofs.Taken.{drop-add}
use Rattle.class_pages.specs.Choosing.{Pick, IsPicked}
use Rattle.class_pages.specs.Pages.{page_of, IsPaged}
use Rattle.class_pages.proofs.Pages.{get_or-page_of, length-page_of}

page_of-next : (cs : List ℕ) (k : ℕ) → page_of cs (suc k) ≡ page_of (drop 4096 cs) k
page_of-next cs k =
    let next : suc k * 4096 ≡ 4096 + k * 4096 = omega arith in
    ap (take 4096) (ap (λ (m : ℕ). drop m cs) next ∙ sym (drop-add 4096 (k * 4096) cs))

-- pages that are those of a list are together as much of it as they have room for
flat_pages : {P : Type 0} (f : P → List ℕ) → (pages : List P) (cs : List ℕ) → ((k : ℕ) (d : P) → k < length pages → f (get_or pages k d) ≡ page_of cs k) → flat_map f pages ≡ take (length pages * 4096) cs
flat_pages f [] cs each = refl
flat_pages f (p ∷ pages) cs each =
    let more : 4096 + length pages * 4096 ≡ suc (length pages) * 4096 = omega arith in
    ap (λ (l : List ℕ). f p ++ l) (flat_pages f pages (drop 4096 cs) (λ k d lt. each (suc k) d (omega (arith, lt)) ∙ page_of-next cs k))
    ∙ ap (λ (l : List ℕ). l ++ take (length pages * 4096) (drop 4096 cs)) (each 0 p (omega arith))
    ∙ sym (take-add 4096 (length pages * 4096) cs) ∙ ap (λ (m : ℕ). take m cs) more

-- the page of a class that changes
page_of-set : (cs : List ℕ) (k place v : ℕ) → place < 4096 → k * 4096 + place < length cs → page_of (set cs (k * 4096 + place) v) k ≡ set (page_of cs k) place v
page_of-set cs k place v most within =
    let new = set cs (k * 4096 + place) v in
    let size : length new ≡ length cs = length-set cs (k * 4096 + place) v in
    let long : length (page_of cs k) ≡ min 4096 (length cs - k * 4096) = length-page_of cs k in
    let long_new : length (page_of new k) ≡ min 4096 (length cs - k * 4096) = length-page_of new k ∙ ap (λ (n : ℕ). min 4096 (n - k * 4096)) size in
    ext_get_or 0 (page_of new k) (set (page_of cs k) place v) (long_new ∙ sym long ∙ sym (length-set (page_of cs k) place v))
    (λ i lt. let below : i < 4096 = omega (arith, lt, long_new) in
    get_or-page_of new k i 0 below ∙ elim (cases_eq i place) [
      | inl same ↦ ap (λ (m : ℕ). get_or new (k * 4096 + m) 0) same ∙ get_or-set_same cs (k * 4096 + place) v 0 within
          ∙ sym (ap (λ (m : ℕ). get_or (set (page_of cs k) place v) m 0) same ∙ get_or-set_same (page_of cs k) place v 0 (omega (arith, long, most, within)))
      | inr other ↦ let apart : k * 4096 + i ≢ k * 4096 + place = λ e. other (omega (arith, e)) in
          get_or-set_other cs (k * 4096 + place) (k * 4096 + i) v 0 apart ∙ sym (get_or-page_of cs k i 0 below) ∙ sym (get_or-set_other (page_of cs k) place i v 0 other)
    ])

-- the other pages
page_of-set_other : (cs : List ℕ) (k j place v : ℕ) → place < 4096 → j ≢ k → page_of (set cs (k * 4096 + place) v) j ≡ page_of cs j
page_of-set_other cs k j place v most other =
    let new = set cs (k * 4096 + place) v in
    let size : length new ≡ length cs = length-set cs (k * 4096 + place) v in
    let long_new : length (page_of new j) ≡ min 4096 (length cs - j * 4096) = length-page_of new j ∙ ap (λ (n : ℕ). min 4096 (n - j * 4096)) size in
    ext_get_or 0 (page_of new j) (page_of cs j) (long_new ∙ sym (length-page_of cs j))
    (λ i lt. let below : i < 4096 = omega (arith, lt, long_new) in
    let apart : j * 4096 + i ≢ k * 4096 + place = λ e. other (omega (arith, e, below, most)) in
    get_or-page_of new j i 0 below ∙ get_or-set_other cs (k * 4096 + place) (j * 4096 + i) v 0 apart ∙ sym (get_or-page_of cs j i 0 below))

-- where a record's class stands
pub page_there : (n i : ℕ) → i < n → i / 4096 < (n + 4095) / 4096
page_there n i lt = omega arith

pub place_there : {P : Type 0} (f : P → List ℕ) → (n i : ℕ) (pages : List P) (page : P) → IsPaged f n pages → i < n → page ≡ get_or pages (i / 4096) page → i % 4096 < length (f page)
place_there f n i pages page h lt is =
    let there : i / 4096 < length pages = omega (arith, h.count, page_there n i lt) in
    let long : length (f page) ≡ min 4096 (length (flat_map f pages) - i / 4096 * 4096) = ap (λ (p : _). length (f p)) is ∙ ap length (h.each (i / 4096) page there) ∙ length-page_of (flat_map f pages) (i / 4096) in
    omega (arith, long, h.long)

pub class_there : {P : Type 0} (f : P → List ℕ) → (n i : ℕ) (pages : List P) (page : P) → IsPaged f n pages → i < n → page ≡ get_or pages (i / 4096) page → get_or (f page) (i % 4096) 0 ≡ get_or (flat_map f pages) i 0
class_there f n i pages page h lt is =
    let there : i / 4096 < length pages = omega (arith, h.count, page_there n i lt) in
    let place : i / 4096 * 4096 + i % 4096 ≡ i = omega arith in
    ap (λ (p : _). get_or (f p) (i % 4096) 0) is ∙ ap (λ (l : List ℕ). get_or l (i % 4096) 0) (h.each (i / 4096) page there)
    ∙ get_or-page_of (flat_map f pages) (i / 4096) (i % 4096) 0 (omega arith) ∙ ap (λ (m : ℕ). get_or (flat_map f pages) m 0) place

-- each page after the class on one changed
set_each : {P : Type 0} (f : P → List ℕ) → (n i v : ℕ) (pages : List P) (old new : P) → IsPaged f n pages → i < n → old ≡ get_or pages (i / 4096) old → f new ≡ set (f old) (i % 4096) v
    → (j : ℕ) (d : P) → j < length (set pages (i / 4096) new) → f (get_or (set pages (i / 4096) new) j d) ≡ page_of (set (flat_map f pages) i v) j
set_each f n i v pages old new h lt is made j d within =
    let cs = flat_map f pages in
    let k = i / 4096 in
    let there : i / 4096 < length pages = omega (arith, h.count, page_there n i lt) in
    let here : j < length pages = omega (arith, within, length-set pages k new) in
    let place : i / 4096 * 4096 + i % 4096 ≡ i = omega arith in
    let spot : set cs (i / 4096 * 4096 + i % 4096) v ≡ set cs i v = ap (λ (m : ℕ). set cs m v) place in
    elim (cases_eq j (i / 4096)) [
      | inl same ↦ ap (λ (m : ℕ). f (get_or (set pages k new) m d)) same ∙ ap f (get_or-set_same pages k new d there) ∙ made
          ∙ ap (λ (l : List ℕ). set l (i % 4096) v) (ap f is ∙ h.each k old there)
          ∙ sym (page_of-set cs k (i % 4096) v (omega arith) (omega (arith, place, lt, h.long))) ∙ ap (λ (l : List ℕ). page_of l k) spot ∙ ap (page_of (set cs i v)) (sym same)
      | inr other ↦ ap f (get_or-set_other pages k j new d other) ∙ h.each j d here
          ∙ sym (page_of-set_other cs k j (i % 4096) v (omega arith) other) ∙ ap (λ (l : List ℕ). page_of l j) spot
    ]

-- the classes after one on a page changed
pub set_flat : {P : Type 0} (f : P → List ℕ) → (n i v : ℕ) (pages : List P) (old new : P) → IsPaged f n pages → i < n → old ≡ get_or pages (i / 4096) old → f new ≡ set (f old) (i % 4096) v
    → flat_map f (set pages (i / 4096) new) ≡ set (flat_map f pages) i v
set_flat f n i v pages old new h lt is made =
    let cs = flat_map f pages in
    let size : length (set cs i v) ≡ length cs = length-set cs i v in
    let many : length (set pages (i / 4096) new) ≡ length pages = length-set pages (i / 4096) new in
    flat_pages f (set pages (i / 4096) new) (set cs i v) (set_each f n i v pages old new h lt is made)
    ∙ take_all (length (set pages (i / 4096) new) * 4096) (set cs i v) (omega (arith, size, many, h.count, h.long))

pub set_paged : {P : Type 0} (f : P → List ℕ) → (n i v : ℕ) (pages : List P) (old new : P) → IsPaged f n pages → i < n → v < 256 → old ≡ get_or pages (i / 4096) old → f new ≡ set (f old) (i % 4096) v
    → IsPaged f n (set pages (i / 4096) new)
set_paged f n i v pages old new h lt small is made =
    let cs = flat_map f pages in
    let flat : flat_map f (set pages (i / 4096) new) ≡ set cs i v = set_flat f n i v pages old new h lt is made in
    record {
      long = ap length flat ∙ length-set cs i v ∙ h.long;
      few = h.few;
      bytes = subst (All (λ class. class < 256)) (sym flat) (All-set (λ class. class < 256) cs i v small h.bytes);
      count = length-set pages (i / 4096) new ∙ h.count;
      each = λ j d within. set_each f n i v pages old new h lt is made j d within ∙ ap (λ (l : List ℕ). page_of l j) (sym flat);
    }

-- a page that stays
pub set_same : {P : Type 0} (pages : List P) (k : ℕ) (old new : P) → old ≡ get_or pages k old → new ≡ old → set pages k new ≡ pages
set_same pages k old new is same = ap (set pages k) (same ∙ is) ∙ set-get_or pages k old

-- whether the class on a page was set or not
pub set_paged_either : {P E : Type 0} (f : P → List ℕ) → (n i : ℕ) (pages : List P) (old new : P) (pick : Pick) (p : Point) (r : Result ℕ E) → IsPaged f n pages → i < n → pick p (get_or (f old) (i % 4096) 0) < 256
    → old ≡ get_or pages (i / 4096) old → IfOk r (IsPicked pick p (i % 4096) (f old) (f new)) → OnErr r (new ≡ old) → IsPaged f n (set pages (i / 4096) new)
set_paged_either f n i pages old new pick p (Ok x) h lt small is picked stays = set_paged f n i (pick p (get_or (f old) (i % 4096) 0)) pages old new h lt small is picked.made
set_paged_either f n i pages old new pick p (Err e) h lt small is picked stays = subst (IsPaged f n) (sym (set_same pages (i / 4096) old new is stays)) h

-- a class picked on a page is picked in the list
pub picked_flat : {P : Type 0} (f : P → List ℕ) → (n i : ℕ) (pages : List P) (old new : P) (pick : Pick) (p : Point) (differ : ℕ) → IsPaged f n pages → i < n → old ≡ get_or pages (i / 4096) old
    → IsPicked pick p (i % 4096) (f old) (f new) differ → IsPicked pick p i (flat_map f pages) (flat_map f (set pages (i / 4096) new)) differ
picked_flat f n i pages old new pick p differ h lt is picked =
    let there : get_or (f old) (i % 4096) 0 ≡ get_or (flat_map f pages) i 0 = class_there f n i pages old h lt is in
    record {
      made = set_flat f n i (pick p (get_or (f old) (i % 4096) 0)) pages old new h lt is picked.made ∙ ap (λ (class : ℕ). set (flat_map f pages) i (pick p class)) there;
      count = subst (λ (class : ℕ). differ ≡ (if pick p class == class then 0 else 1)) there picked.count;
    }

-- a class that stays leaves its list as it is
pub picked_left : (pick : Pick) (p : Point) (place : ℕ) (old new : List ℕ) (differ : ℕ) → IsPicked pick p place old new differ → differ ≡ 0 → new ≡ old
picked_left pick p place old new differ picked none =
    let same : pick p (get_or old place 0) ≡ get_or old place 0 = stays (pick p (get_or old place 0)) (get_or old place 0) differ none picked.count in
    picked.made ∙ ap (set old place) same ∙ set-get_or old place 0
  where
    stays : (v w n : ℕ) → n ≡ 0 → n ≡ (if v == w then 0 else 1) → v ≡ w
    stays v w n none is = grind (arith, nat_tests)

-- where the class picked is the one there, nothing changes
pub picked_same : (pick : Pick) (p : Point) (place : ℕ) (old : List ℕ) → pick p (get_or old place 0) ≡ get_or old place 0 → IsPicked pick p place old old 0
picked_same pick p place old same = record {
  made = sym (ap (set old place) same ∙ set-get_or old place 0);
  count = none 0 (pick p (get_or old place 0)) (get_or old place 0) refl same;
}
  where
    none : (n v w : ℕ) → n ≡ 0 → v ≡ w → n ≡ (if v == w then 0 else 1)
    none n v w zero is = grind (arith, nat_tests)
