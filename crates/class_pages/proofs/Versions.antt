-- A version's pages with the classes picked for them, and how many classes changed on them.
use Rattle.std.proofs.Common.{◌≡◌, ℕ, zero, suc, ◌+◌, ◌-◌, ◌*◌, ◌==◌, ◌<◌, ◌≤◌, not, min, Bool, false, cond, List, ◌++◌, length, get_or, take, refl, sym, ◌∙◌, ap, arith, count_by}
use Rattle.std.proofs.lemmas.Bool.Decides.{nat_tests}
use Rattle.std.proofs.lemmas.List.{ext_get_or, length-append, length-take, take_all, get_or_append_left, get_or-append-add}
use Rattle.std.proofs.lemmas.List.FromFn.{get_or-map-range_with_len, length-map-range_with_len}
use Rattle.std.proofs.lemmas.List.Sums.{sum_by-append, count_by-le-length}
use Rattle.std.proofs.Math.Seq.{take-add}
use Rattle.std.specs.List.{range_with_len}
use Rattle.view_meaning.proofs.Rows.{range-append}
use Rattle.view_meaning.specs.Survey.{point_of}
use Rattle.view_meaning.specs.Classes.{changed}
use Rattle.class_pages.proofs.Pages.{get_or-page_of, length-page_of}
use Rattle.class_pages.proofs.Steps.{counts_more, counts_same}
use Rattle.class_pages.specs.Choosing.{Pick, chosen, IsAfter}
use Rattle.class_pages.specs.Pages.{page_of}

pub length-chosen : (b : List ℕ) (pick : Pick) (cs : List ℕ) → length (chosen b pick cs) ≡ length cs
unfolding chosen
length-chosen b pick cs = length-map-range_with_len (λ i. pick (point_of b i) (get_or cs i 0)) 0 (length cs)

pub get_or-chosen : (b : List ℕ) (pick : Pick) (cs : List ℕ) (i : ℕ) → i < length cs → get_or (chosen b pick cs) i 0 ≡ pick (point_of b i) (get_or cs i 0)
unfolding chosen
get_or-chosen b pick cs i within = get_or-map-range_with_len (λ i. pick (point_of b i) (get_or cs i 0)) 0 (length cs) i i 0 within (omega arith)

-- a page after the picking is the page of the classes picked
pub page_chosen : (b : List ℕ) (pick : Pick) (cs old new : List ℕ) (k : ℕ) → old ≡ page_of cs k → IsAfter b (k * 4096) pick old new → new ≡ page_of (chosen b pick cs) k
page_chosen b pick cs old new k is h =
    let long : length old ≡ min 4096 (length cs - k * 4096) = ap length is ∙ length-page_of cs k in
    let size : length new ≡ length (page_of (chosen b pick cs) k) =
    h.size ∙ long ∙ ap (λ (n : ℕ). min 4096 (n - k * 4096)) (sym (length-chosen b pick cs)) ∙ sym (length-page_of (chosen b pick cs) k) in
    ext_get_or 0 new (page_of (chosen b pick cs) k) size (λ i lt.
    let within : i < length old = omega (arith, lt, h.size) in
    let most : i < 4096 = omega (arith, within, long) in
    let there : k * 4096 + i < length cs = omega (arith, within, long) in
    h.each i within ∙ ap (λ (l : List ℕ). pick (point_of b (k * 4096 + i)) (get_or l i 0)) is
    ∙ ap (pick (point_of b (k * 4096 + i))) (get_or-page_of cs k i 0 most)
    ∙ sym (get_or-chosen b pick cs (k * 4096 + i) there)
    ∙ sym (get_or-page_of (chosen b pick cs) k i 0 most))

counts_shift : (p : ℕ → Bool) (a n : ℕ) → count_by p (range_with_len a n) ≡ count_by (λ k. p (a + k)) (range_with_len 0 n)
counts_shift p a zero = refl
counts_shift p a (suc n) =
    counts_more a n (a + n) p refl ∙ ap (λ (k : ℕ). k + cond (p (a + n)) 1 0) (counts_shift p a n) ∙ sym (counts_more 0 n n (λ k. p (a + k)) (omega arith))

-- what changed on a list and on another after it
pub changed-append : (a b c d : List ℕ) → length a ≡ length c → changed (a ++ b) (c ++ d) ≡ changed a c + changed b d
unfolding changed
changed-append a b c d same =
    let differs = λ (i : ℕ). not (get_or (a ++ b) i 0 == get_or (c ++ d) i 0) in
    ap (λ (n : ℕ). count_by differs (range_with_len 0 n)) (length-append a b)
    ∙ ap (count_by differs) (range-append 0 (length a) (length b))
    ∙ sum_by-append (λ i. cond (differs i) 1 0) (range_with_len 0 (length a)) (range_with_len (0 + length a) (length b))
    ∙ ap (λ (n : ℕ). n + count_by differs (range_with_len (0 + length a) (length b)))
    (counts_same 0 (length a) differs (λ i. not (get_or a i 0 == get_or c i 0))
    (λ i low lt. ap (λ (v : ℕ). not (v == get_or (c ++ d) i 0)) (get_or_append_left a b 0 i (omega (arith, lt)))
    ∙ ap (λ (v : ℕ). not (get_or a i 0 == v)) (get_or_append_left c d 0 i (omega (arith, lt, same)))))
    ∙ ap (λ (n : ℕ). count_by (λ i. not (get_or a i 0 == get_or c i 0)) (range_with_len 0 (length a)) + n)
    (ap (λ (n : ℕ). count_by differs (range_with_len n (length b))) (omega arith)
    ∙ counts_shift differs (length a) (length b)
    ∙ counts_same 0 (length b) (λ i. differs (length a + i)) (λ i. not (get_or b i 0 == get_or d i 0))
    (λ i low lt. ap (λ (v : ℕ). not (v == get_or (c ++ d) (length a + i) 0)) (get_or-append-add a b i 0)
    ∙ ap (λ (v : ℕ). not (get_or b i 0 == v)) (ap (λ (n : ℕ). get_or (c ++ d) (n + i) 0) same ∙ get_or-append-add c d i 0)))

-- no more change than there are
pub changed_most : (old new : List ℕ) → changed old new ≤ length old
unfolding changed
changed_most old new =
    let all : length (range_with_len 0 (length old)) ≡ length old = length-range 0 (length old) in
    omega (arith, all, count_by-le-length (λ i. not (get_or old i 0 == get_or new i 0)) (range_with_len 0 (length old)))
  where
    length-range : (a n : ℕ) → length (range_with_len a n) ≡ n
    length-range a zero = refl
    length-range a (suc n) = ap suc (length-range (a + 1) n)

-- one more page's changes
pub changed_more : (cs new : List ℕ) (k n so_far on_page : ℕ) (page made : List ℕ) → n ≡ suc k → length new ≡ length cs → page ≡ page_of cs k → made ≡ page_of new k
    → so_far ≡ changed (take (k * 4096) cs) (take (k * 4096) new) → on_page ≡ changed page made → so_far + on_page ≡ changed (take (n * 4096) cs) (take (n * 4096) new)
changed_more cs new k n so_far on_page page made next size is made_is before here =
    let more : n * 4096 ≡ k * 4096 + 4096 = omega (arith, next) in
    let same : length (take (k * 4096) cs) ≡ length (take (k * 4096) new) =
    length-take (k * 4096) cs ∙ ap (min (k * 4096)) (sym size) ∙ sym (length-take (k * 4096) new) in
    ap (λ (m : ℕ). m + on_page) before
    ∙ ap (λ (m : ℕ). changed (take (k * 4096) cs) (take (k * 4096) new) + m) (here ∙ ap (λ (l : List ℕ). changed l made) is ∙ ap (changed (page_of cs k)) made_is)
    ∙ sym (changed-append (take (k * 4096) cs) (page_of cs k) (take (k * 4096) new) (page_of new k) same)
    ∙ ap (λ (l : List ℕ). changed l (take (k * 4096) new ++ page_of new k)) (sym (take-add (k * 4096) 4096 cs))
    ∙ ap (changed (take (k * 4096 + 4096) cs)) (sym (take-add (k * 4096) 4096 new))
    ∙ ap (λ (m : ℕ). changed (take m cs) (take m new)) (sym more)

-- before the first page nothing changed
pub changed_none : (cs new : List ℕ) → 0 ≡ changed (take (0 * 4096) cs) (take (0 * 4096) new)
unfolding changed
changed_none cs new = refl

-- after the last page all changes are counted
pub changed_all : (cs new : List ℕ) (k : ℕ) → length new ≡ length cs → length cs ≤ k * 4096 → changed (take (k * 4096) cs) (take (k * 4096) new) ≡ changed cs new
changed_all cs new k size last =
    ap (λ (l : List ℕ). changed l (take (k * 4096) new)) (take_all (k * 4096) cs last) ∙ ap (changed cs) (take_all (k * 4096) new (omega (arith, size, last)))

-- a page that is shared has no change
pub changed_same : (old new : List ℕ) → new ≡ old → 0 ≡ changed old new
unfolding changed
changed_same old new is =
    sym (ap (changed old) is ∙ counts_same 0 (length old) (λ i. not (get_or old i 0 == get_or old i 0)) (λ i. false) (λ i low lt. equal (get_or old i 0)) ∙ none 0 (length old))
  where
    equal : (v : ℕ) → not (v == v) ≡ false
    equal v = grind (arith, nat_tests)

    none : (a n : ℕ) → count_by (λ k. false) (range_with_len a n) ≡ 0
    none a zero = refl
    none a (suc n) = none (a + 1) n
