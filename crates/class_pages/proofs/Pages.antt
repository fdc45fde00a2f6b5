-- Classes in pages.
use Rattle.std.proofs.Common.{◌≡◌, ℕ, suc, ◌+◌, ◌-◌, ◌*◌, ◌^◌, ◌<◌, ◌≤◌, min, List, [], ◌∷◌, ◌++◌, length, get_or, take, drop, inl, inr, refl, sym, ◌∙◌, ap, arith, append-nil, All, subst}
use Rattle.std.proofs.lemmas.Bool.{cases_lt}
use Rattle.std.proofs.lemmas.Grind.{flat_map-append}
use Rattle.std.proofs.lemmas.List.{length-append, length-take, length-drop, get_or-take, get_or-drop, get_or_append_left, get_or-append_right, take_all, take-take, drop-take}
use Rattle.std.proofs.Math.Seq.{take-add}
use Rattle.std.specs.List.{flat_map}
use Rattle.view_ends.proofs.Taken.{drop-add}
use Rattle.class_pages.specs.Pages.{page_count, page_of, IsPaged}

-- the class of a record stands on its page
pub get_or-page_of : (cs : List ℕ) (k i d : ℕ) → i < 4096 → get_or (page_of cs k) i d ≡ get_or cs (k * 4096 + i) d
get_or-page_of cs k i d within = get_or-take 4096 (drop (k * 4096) cs) i d within ∙ get_or-drop (k * 4096) cs i d

pub length-page_of : (cs : List ℕ) (k : ℕ) → length (page_of cs k) ≡ min 4096 (length cs - k * 4096)
length-page_of cs k = length-take 4096 (drop (k * 4096) cs) ∙ ap (min 4096) (length-drop (k * 4096) cs)

-- a page of what is left
pub take-left : (cs : List ℕ) (k n left : ℕ) → length cs ≡ n → left ≡ min 4096 (n - k * 4096) → take left (drop (k * 4096) cs) ≡ page_of cs k
take-left cs k n left size is =
    elim (cases_lt (n - k * 4096) 4096) [
      | inl short ↦ let rest : length (drop (k * 4096) cs) ≡ n - k * 4096 = length-drop (k * 4096) cs ∙ ap (λ (m : ℕ). m - k * 4096) size in
          take_all left (drop (k * 4096) cs) (omega (arith, is, short, rest)) ∙ sym (take_all 4096 (drop (k * 4096) cs) (omega (arith, short, rest)))
      | inr long ↦ let whole : left ≡ 4096 = omega (arith, is, long) in ap (λ (m : ℕ). take m (drop (k * 4096) cs)) whole
    ]

-- the first k pages of a list of classes
pub record IsBuilt {P : Type 0} (f : P → List ℕ) (cs : List ℕ) (k : ℕ) (pages : List P) : Type 0 where
  pub size : length pages ≡ k
  pub all : flat_map f pages ≡ take (k * 4096) cs
  pub each : (j : ℕ) (d : P) → j < k → f (get_or pages j d) ≡ page_of cs j

pub built_nothing : {P : Type 0} (f : P → List ℕ) → (cs : List ℕ) → IsBuilt f cs 0 []
built_nothing f cs = record { size = refl; all = refl; each = λ j d lt. absurd (omega (arith, lt)) }

-- one more page
pub built_more : {P : Type 0} (f : P → List ℕ) → (cs : List ℕ) (k n : ℕ) (pages : List P) (page : P) → n ≡ suc k → f page ≡ page_of cs k → IsBuilt f cs k pages → IsBuilt f cs n (pages ++ page ∷ [])
built_more f cs k n pages page next is h =
    let more : k * 4096 + 4096 ≡ n * 4096 = omega (arith, next) in
    record {
      size = length-append pages (page ∷ []) ∙ omega (arith, next, h.size);
      all = flat_map-append f pages (page ∷ []) ∙ ap (λ (l : List ℕ). flat_map f pages ++ l) (append-nil (f page) ∙ is) ∙ ap (λ (l : List ℕ). l ++ page_of cs k) h.all
          ∙ sym (take-add (k * 4096) 4096 cs) ∙ ap (λ (m : ℕ). take m cs) more;
      each = λ j d lt. elim (cases_lt j k) [
        | inl below ↦ ap f (get_or_append_left pages (page ∷ []) d j (omega (arith, below, h.size))) ∙ h.each j d below
        | inr least ↦ let here : j ≡ k = omega (arith, lt, next, least) in let none : j - k ≡ 0 = omega (arith, here) in
            ap f (get_or-append_right pages (page ∷ []) k j d h.size least ∙ ap (λ m. get_or (page ∷ []) m d) none) ∙ is ∙ ap (page_of cs) (sym here)
      ];
    }

-- all pages
pub built_is : {P : Type 0} (f : P → List ℕ) → (cs : List ℕ) (k : ℕ) (pages : List P) → k ≡ page_count (length cs) → IsBuilt f cs k pages → flat_map f pages ≡ cs
built_is f cs k pages last h = h.all ∙ take_all (k * 4096) cs (omega (arith, last))

pub built_all : {P : Type 0} (f : P → List ℕ) → (cs : List ℕ) (k n : ℕ) (pages : List P) → k ≡ page_count n → length cs ≡ n → n < 2 ^ 32 → All (λ class. class < 256) cs → IsBuilt f cs k pages → IsPaged f n pages
built_all f cs k n pages last size few bytes h =
    let is : flat_map f pages ≡ cs = built_is f cs k pages (last ∙ ap page_count (sym size)) h in
    record {
      long = ap length is ∙ size;
      few = few;
      bytes = subst (All (λ class. class < 256)) (sym is) bytes;
      count = h.size ∙ last;
      each = λ j d lt. h.each j d (omega (arith, lt, h.size)) ∙ ap (λ (l : List ℕ). page_of l j) (sym is);
    }

-- a page of a version
pub page_is : {P : Type 0} (f : P → List ℕ) → (cs : List ℕ) (n k : ℕ) (pages : List P) (p : P) → IsPaged f n pages → flat_map f pages ≡ cs → k < length pages → p ≡ get_or pages k p → f p ≡ page_of cs k
page_is f cs n k pages p h all within is = ap f is ∙ h.each k p within ∙ ap (λ (l : List ℕ). page_of l k) all

-- it has no more than 4096 classes, and is within the list
pub page_most : {P : Type 0} (f : P → List ℕ) → (cs : List ℕ) (k : ℕ) (p : P) → f p ≡ page_of cs k → length (f p) ≤ 4096
page_most f cs k p is = let long : length (f p) ≡ min 4096 (length cs - k * 4096) = ap length is ∙ length-page_of cs k in omega (arith, long)

pub page_within : {P : Type 0} (f : P → List ℕ) → (cs : List ℕ) (k : ℕ) (p : P) → f p ≡ page_of cs k → k < page_count (length cs) → k * 4096 + length (f p) ≤ length cs
page_within f cs k p is there = let long : length (f p) ≡ min 4096 (length cs - k * 4096) = ap length is ∙ length-page_of cs k in omega (arith, long, there)

pub page_least : {P : Type 0} (f : P → List ℕ) → (cs : List ℕ) (k : ℕ) (p : P) → f p ≡ page_of cs k → k < page_count (length cs) → 1 ≤ length (f p)
page_least f cs k p is there = let long : length (f p) ≡ min 4096 (length cs - k * 4096) = ap length is ∙ length-page_of cs k in omega (arith, long, there)

-- classes that follow one another on a page
pub run_of_page : (cs : List ℕ) (k at n first : ℕ) → at + n ≤ 4096 → k * 4096 + at ≡ first → take n (drop at (page_of cs k)) ≡ take n (drop first cs)
run_of_page cs k at n first within place =
    let page : at + (4096 - at) ≡ 4096 = omega (arith, within) in
    ap (λ (m : ℕ). take n (drop at (take m (drop (k * 4096) cs)))) (sym page) ∙ ap (take n) (drop-take at (4096 - at) (drop (k * 4096) cs))
    ∙ take-take n (4096 - at) (drop at (drop (k * 4096) cs)) (omega (arith, within))
    ∙ ap (take n) (drop-add (k * 4096) at cs ∙ ap (λ (m : ℕ). drop m cs) place)
