-- Classes record by record.
use Rattle.std.proofs.Common.{◌≡◌, ◌≢◌, ℕ, zero, suc, take, drop, ◌+◌, ◌<◌, ◌≤◌, ◌==◌, not, Bool, false, cond, List, [], ◌∷◌, ◌++◌, length, get_or, set, map, inl, inr, refl, sym, ◌∙◌, ap, arith, count_by}
use Rattle.std.proofs.lemmas.Bool.{cases_lt}
use Rattle.std.proofs.lemmas.Bool.Decides.{nat_tests}
use Rattle.std.proofs.lemmas.List.{ext_get_or, length-set, get_or-set_same, get_or-set_other, get_or-take, get_or-drop, length-take, length-drop}
use Rattle.std.proofs.lemmas.List.FromFn.{get_or-map-range_with_len, length-map-range_with_len}
use Rattle.std.proofs.lemmas.List.Sums.{sum_by-append, fold-append}
use Rattle.std.specs.List.{range_with_len}
use mir.Val.{bool_byte}
use Rattle.view_meaning.specs.Survey.{record_count, record_length, record_at, format_of, class_place, class_byte, u8_at, point_of}
use Rattle.view_meaning.specs.Classes.{Edit, class_of, class_after, class_at, classes, changed}
use Rattle.view_meaning.proofs.Nearest.{range_more}
use Rattle.view_base.specs.declared.place.Point.{Point}
use Rattle.class_pages.specs.Choosing.{Pick, chosen, IsSame}
use Rattle.class_pages.specs.Edited.{after_edit}

-- the first i items are those of f, the others are as they were
pub record IsMadeBelow (i : ℕ) (f : ℕ → ℕ) (old new : List ℕ) : Type 0 where
  pub size : length new ≡ length old
  pub made : (k : ℕ) → k < i → get_or new k 0 ≡ f k
  pub left : (k : ℕ) → i ≤ k → get_or new k 0 ≡ get_or old k 0

pub made_nothing : (f : ℕ → ℕ) (old : List ℕ) → IsMadeBelow 0 f old old
made_nothing f old = record { size = refl; made = λ k lt. absurd (omega (arith, lt)); left = λ k le. refl }

-- one more item
pub made_more : (i j : ℕ) (f : ℕ → ℕ) (old new : List ℕ) (v : ℕ) → j ≡ suc i → i < length old → v ≡ f i → IsMadeBelow i f old new → IsMadeBelow j f old (set new i v)
made_more i j f old new v next within is h =
    let here : i < length new = let e : length new ≡ length old = h.size in omega arith in
    record {
      size = length-set new i v ∙ h.size;
      made = λ k lt. elim (cases_lt k i) [
        | inl below ↦ let other : k ≢ i = omega arith in get_or-set_other new i k v 0 other ∙ h.made k below
        | inr least ↦ let same : k ≡ i = omega arith in ap (λ (k : ℕ). get_or (set new i v) k 0) same ∙ get_or-set_same new i v 0 here ∙ is ∙ ap f (sym same)
      ];
      left = λ k le. let other : k ≢ i = omega arith in get_or-set_other new i k v 0 other ∙ h.left k (omega arith);
    }

-- all items
pub made_all : (n : ℕ) (f : ℕ → ℕ) (old new : List ℕ) → length old ≡ n → IsMadeBelow n f old new → new ≡ map f (range_with_len 0 n)
made_all n f old new size h =
    ext_get_or 0 new (map f (range_with_len 0 n)) (h.size ∙ size ∙ sym (length-map-range_with_len f 0 n))
    (λ i lt. let within : i < n = let e : length new ≡ length old = h.size in omega arith in h.made i within ∙ sym (get_or-map-range_with_len f 0 n i i 0 within (omega arith)))

-- how many of the first i items f changes
abbrev pub count_below : ℕ → (ℕ → ℕ) → List ℕ → ℕ
count_below i f old = count_by (λ k. not (get_or old k 0 == f k)) (range_with_len 0 i)

pub counts_more : (a n m : ℕ) (p : ℕ → Bool) → a + n ≡ m → count_by p (range_with_len a (suc n)) ≡ count_by p (range_with_len a n) + cond (p m) 1 0
counts_more a n m p last =
    ap (count_by p) (range_more a n m last) ∙ sum_by-append (λ k. cond (p k) 1 0) (range_with_len a n) (m ∷ []) ∙ omega arith

-- one more item is counted where its value is another one than before
pub counted_more : (i j : ℕ) (f : ℕ → ℕ) (old : List ℕ) (count step v before : ℕ) → j ≡ suc i → before ≡ get_or old i 0 → v ≡ f i → step ≡ bool_byte (not (v == before)) → count ≡ count_below i f old
    → count + step ≡ count_below j f old
counted_more i j f old count step v before next was is counted so_far =
    let same : bool_byte (not (v == before)) ≡ cond (not (get_or old i 0 == f i)) 1 0 =
    ap (λ (k : ℕ). bool_byte (not (v == k))) was ∙ ap (λ (k : ℕ). bool_byte (not (k == get_or old i 0))) is ∙ turned (f i) (get_or old i 0) in
    ap (λ (k : ℕ). k + step) so_far ∙ ap (λ (k : ℕ). count_below i f old + k) (counted ∙ same)
    ∙ sym (ap (λ (k : ℕ). count_below k f old) next ∙ counts_more 0 i i (λ k. not (get_or old k 0 == f k)) (omega arith))
  where
    turned : (a b : ℕ) → bool_byte (not (a == b)) ≡ cond (not (b == a)) 1 0
    turned a b = grind (arith, nat_tests)

-- the class of a record, from its bytes
pub class_read : (b : List ℕ) (i format place value : ℕ) (bytes : List ℕ) → format ≡ format_of b → place ≡ class_place format → 20 ≤ record_length b → bytes ≡ take (record_length b) (drop (record_at b i) b)
    → value ≡ class_of format (get_or bytes place 0) → value ≡ class_of (format_of b) (class_byte b i)
unfolding class_byte u8_at
class_read b i format place value bytes known at least taken read =
    let here : place ≡ class_place (format_of b) = at ∙ ap class_place known in
    let within : class_place (format_of b) < record_length b = place_within (format_of b) (record_length b) least in
    let byte : get_or bytes place 0 ≡ get_or b (record_at b i + class_place (format_of b)) 0 =
    ap (λ (l : List ℕ). get_or l place 0) taken ∙ ap (λ (k : ℕ). get_or (take (record_length b) (drop (record_at b i) b)) k 0) here
    ∙ get_or-take (record_length b) (drop (record_at b i) b) (class_place (format_of b)) 0 within ∙ get_or-drop (record_at b i) b (class_place (format_of b)) 0 in
    read ∙ ap (λ (k : ℕ). class_of k (get_or bytes place 0)) known ∙ ap (class_of (format_of b)) byte
  where
    place_within : (format size : ℕ) → 20 ≤ size → class_place format < size
    place_within format size least = grind (arith, nat_tests)

-- the classes that the bytes of some records give are those of the file
pub classes_run : (b old cs : List ℕ) (first n : ℕ) → length old ≡ n → first + n ≤ record_count b → IsMadeBelow n (λ k. class_of (format_of b) (class_byte b (first + k))) old cs → cs ≡ take n (drop first (classes b []))
unfolding classes class_at
classes_run b old cs first n size within h =
    let all = map (class_at b []) (range_with_len 0 (record_count b)) in
    let long : length all ≡ record_count b = length-map-range_with_len (class_at b []) 0 (record_count b) in
    let run : length (take n (drop first all)) ≡ n = length-take n (drop first all) ∙ omega (arith, long, within, length-drop first all) in
    ext_get_or 0 cs (take n (drop first all)) (h.size ∙ size ∙ sym run) (λ i lt.
    let inside : i < n = omega (arith, lt, h.size, size) in
    h.made i inside
    ∙ sym (get_or-map-range_with_len (class_at b []) 0 (record_count b) (first + i) (first + i) 0 (omega (arith, inside, within)) (omega arith))
    ∙ sym (get_or-drop first all i 0) ∙ sym (get_or-take n (drop first all) i 0 inside))

-- the classes after an edit are those after one more edit of the list
pub after_edit-classes : (b : List ℕ) (edits : List Edit) (e : Edit) → after_edit b (classes b edits) e ≡ classes b (edits ++ e ∷ [])
unfolding chosen classes class_at
after_edit-classes b edits e =
    let n = record_count b in
    let size : length (map (class_at b edits) (range_with_len 0 n)) ≡ n = length-map-range_with_len (class_at b edits) 0 n in
    let each = λ (i : ℕ). class_after (point_of b i) (get_or (map (class_at b edits) (range_with_len 0 n)) i 0) e in
    ap (λ (k : ℕ). map each (range_with_len 0 k)) size
    ∙ ext_get_or 0 (map each (range_with_len 0 n)) (map (class_at b (edits ++ e ∷ [])) (range_with_len 0 n))
    (length-map-range_with_len each 0 n ∙ sym (length-map-range_with_len (class_at b (edits ++ e ∷ [])) 0 n))
    (λ i lt. let within : i < n = let s : length (map each (range_with_len 0 n)) ≡ n = length-map-range_with_len each 0 n in omega (arith, lt, s) in
    get_or-map-range_with_len each 0 n i i 0 within (omega arith)
    ∙ ap (λ (k : ℕ). class_after (point_of b i) k e) (get_or-map-range_with_len (class_at b edits) 0 n i i 0 within (omega arith))
    ∙ sym (fold-append (class_after (point_of b i)) _ edits (e ∷ []))
    ∙ sym (get_or-map-range_with_len (class_at b (edits ++ e ∷ [])) 0 n i i 0 within (omega arith)))

pub counts_same : (a n : ℕ) (p q : ℕ → Bool) → ((k : ℕ) → a ≤ k → k < a + n → p k ≡ q k) → count_by p (range_with_len a n) ≡ count_by q (range_with_len a n)
counts_same a zero p q same = refl
counts_same a (suc n) p q same =
    counts_more a n (a + n) p refl
    ∙ ap (λ (k : ℕ). k + cond (p (a + n)) 1 0) (counts_same a n p q (λ k low lt. same k low (omega arith)))
    ∙ ap (λ (b : Bool). count_by q (range_with_len a n) + cond b 1 0) (same (a + n) (omega arith) (omega arith))
    ∙ sym (counts_more a n (a + n) q refl)

-- counted record by record, as many classes changed as differ
pub changed_counted : (f : ℕ → ℕ) (old new : List ℕ) (n count : ℕ) → length old ≡ n → IsMadeBelow n f old new → count ≡ count_below n f old → count ≡ changed old new
unfolding changed
changed_counted f old new n count size h counted =
    counted
    ∙ counts_same 0 n (λ k. not (get_or old k 0 == f k)) (λ k. not (get_or old k 0 == get_or new k 0))
    (λ k low lt. ap (λ (v : ℕ). not (get_or old k 0 == v)) (sym (h.made k (omega (arith, lt)))))
    ∙ ap (λ (k : ℕ). count_by (λ i. not (get_or old i 0 == get_or new i 0)) (range_with_len 0 k)) (sym size)

-- where f changes none of the first items, they are as f makes them
pub made_same : (n : ℕ) (f : ℕ → ℕ) (old : List ℕ) → ((k : ℕ) → k < n → f k ≡ get_or old k 0) → IsMadeBelow n f old old
made_same n f old same = record { size = refl; made = λ k lt. sym (same k lt); left = λ k le. refl }

-- and none of them is counted
pub counted_same : (n : ℕ) (f : ℕ → ℕ) (old : List ℕ) → ((k : ℕ) → k < n → f k ≡ get_or old k 0) → 0 ≡ count_below n f old
counted_same n f old same = sym (counts_same 0 n (λ k. not (get_or old k 0 == f k)) (λ k. false) (λ k low lt. one (f k) (get_or old k 0) (same k (omega (arith, lt)))) ∙ none 0 n)
  where
    one : (v w : ℕ) → v ≡ w → not (w == v) ≡ false
    one v w is = grind (arith, nat_tests)

    none : (a n : ℕ) → count_by (λ k. false) (range_with_len a n) ≡ 0
    none a zero = refl
    none a (suc n) = none (a + 1) n

-- one more class that is picked for itself
pub same_more : (b cs : List ℕ) (pick : Pick) (first i j v : ℕ) (p : Point) → j ≡ suc i → p ≡ point_of b (first + i) → v ≡ pick p (get_or cs i 0) → v ≡ get_or cs i 0 → IsSame b first pick i cs → IsSame b first pick j cs
same_more b cs pick first i j v p next is after stays h = λ k lt. elim (cases_lt k i) [
  | inl below ↦ h k below
  | inr over ↦ let here : i ≡ k = omega (arith, lt, next, over) in
      ap (λ (k : ℕ). pick (point_of b (first + k)) (get_or cs k 0)) (sym here) ∙ ap (λ q. pick q (get_or cs i 0)) (sym is) ∙ sym after ∙ stays ∙ ap (λ (k : ℕ). get_or cs k 0) here
]
