-- Counts of records that follow one another, and of those of a run.
use Rattle.std.proofs.Common.{◌≡◌, ◌∙◌, ℕ, zero, suc, ◌+◌, ◌<◌, ◌≤◌, ◌&&◌, not, Bool, true, false, cond, List, [], ◌∷◌, length, take, drop, get_or, refl, sym, ap, arith}
use mir.Val.{bool_byte}
use Rattle.std.specs.List.{count_by, range_with_len}
use Rattle.std.proofs.lemmas.List.{get_or-take, get_or-drop}
use Rattle.std.proofs.lemmas.List.Sums.{sum_by-append}
use Rattle.view_meaning.specs.Classes.{Filter, has, passes}
use Rattle.view_meaning.specs.Survey.{withheld_of}
use Rattle.view_meaning.proofs.Nearest.{range_more}
use Rattle.view_meaning.proofs.Rows.{range-append}
use Rattle.sessions.specs.Passing.{class_passes, record_passes}

-- two counts of records that follow one another
pub counted_both : (test : ℕ → Bool) (first half rest count front back : ℕ) → half + rest ≡ count
    → front ≡ count_by test (range_with_len first half) → back ≡ count_by test (range_with_len (first + half) rest)
    → front + back ≡ count_by test (range_with_len first count)
counted_both test first half rest count front back whole low high =
    ap (λ (k : ℕ). k + back) low ∙ ap (λ (k : ℕ). count_by test (range_with_len first half) + k) high
    ∙ sym (ap (λ (k : ℕ). count_by test (range_with_len first k)) (sym whole) ∙ ap (count_by test) (range-append first half rest)
    ∙ sum_by-append (λ k. cond (test k) 1 0) (range_with_len first half) (range_with_len (first + half) rest))

byte_is : (b : Bool) → bool_byte b ≡ 0 + cond b 1 0
byte_is true = omega arith
byte_is false = omega arith

-- one more number is counted where it passes
pub counted_more : (test : ℕ → Bool) (n next count step : ℕ) (passed : Bool) → next ≡ suc n → passed ≡ test n → step ≡ bool_byte passed
    → count ≡ count_by test (range_with_len 0 n) → count + step ≡ count_by test (range_with_len 0 next)
counted_more test n next count step passed after is stepped so_far =
    ap (λ (k : ℕ). k + step) so_far ∙ ap (λ (k : ℕ). count_by test (range_with_len 0 n) + k) (stepped ∙ ap bool_byte is ∙ byte_is (test n))
    ∙ sym (ap (λ (k : ℕ). count_by test (range_with_len 0 k)) after ∙ ap (count_by test) (range_more 0 n n (omega arith)) ∙ sum_by-append (λ k. cond (test k) 1 0) (range_with_len 0 n) (n ∷ []))

-- a step counts one at the most
pub one_at_most : (step : ℕ) (passed : Bool) → step ≡ bool_byte passed → step ≤ 1
one_at_most step true is = omega (arith, is)
one_at_most step false is = omega (arith, is)

-- a range counts what it counts without its last number, and that one where it passes
count_by-last : (f : ℕ → Bool) (a n m : ℕ) → a + n ≡ m → count_by f (range_with_len a (suc n)) ≡ count_by f (range_with_len a n) + cond (f m) 1 0
count_by-last f a n m is =
    let last : 0 + cond (f m) 1 0 ≡ cond (f m) 1 0 = omega arith in
    ap (count_by f) (range_more a n m is) ∙ sum_by-append (λ k. cond (f k) 1 0) (range_with_len a n) (m ∷ [])
    ∙ ap (λ (k : ℕ). count_by f (range_with_len a n) + k) last

-- tests that agree number by number count as many
count_by-from : (f g : ℕ → Bool) (a n : ℕ) → ((k : ℕ) → k < n → f (a + k) ≡ g k) → count_by f (range_with_len a n) ≡ count_by g (range_with_len 0 n)
count_by-from f g a zero same = refl
count_by-from f g a (suc n) same =
    count_by-last f a n (a + n) refl ∙ ap (λ (p : Bool). count_by f (range_with_len a n) + cond p 1 0) (same n (omega arith))
    ∙ ap (λ (k : ℕ). k + cond (g n) 1 0) (count_by-from f g a n (λ k below. same k (omega (arith, below)))) ∙ sym (count_by-last g 0 n n (omega arith))

-- where each number passes, all are counted
count_by-each : (a n : ℕ) → count_by (λ k. true) (range_with_len a n) ≡ n
count_by-each a zero = refl
count_by-each a (suc n) = let more = count_by-each a n in count_by-last (λ k. true) a n (a + n) refl ∙ omega (arith, more)

-- class k of a run is that of record first + k
run_class : (all run : List ℕ) (first k : ℕ) → run ≡ take (length run) (drop first all) → k < length run → get_or run k 0 ≡ get_or all (first + k) 0
run_class all run first k is below =
    ap (λ (l : List ℕ). get_or l k 0) is ∙ get_or-take (length run) (drop first all) k 0 below ∙ get_or-drop first all k 0

and_true : (a : Bool) → (a && true) ≡ a
and_true true = refl
and_true false = refl

-- the records of a run that pass where withheld ones are hidden
pub passes_shown : (b all run : List ℕ) (filter : Filter) (first count : ℕ) → filter.hide_withheld ≡ true → run ≡ take (length run) (drop first all)
    → count ≡ count_by (record_passes b filter run first) (range_with_len 0 (length run)) → count ≡ count_by (passes b all filter) (range_with_len first (length run))
unfolding passes
passes_shown b all run filter first count hides is counted =
    counted ∙ sym (count_by-from (passes b all filter) (record_passes b filter run first) first (length run) (λ k below.
    ap (λ (h : Bool). has filter.classes (get_or all (first + k) 0) && not (h && withheld_of b (first + k))) hides
    ∙ ap (λ (c : ℕ). has filter.classes c && not (withheld_of b (first + k))) (sym (run_class all run first k is below))))

-- where they are not, a record passes by its class alone
by_class : (b all run : List ℕ) (filter : Filter) (first k : ℕ) → filter.hide_withheld ≡ false → run ≡ take (length run) (drop first all) → k < length run
    → passes b all filter (first + k) ≡ class_passes filter run k
unfolding passes
by_class b all run filter first k shows is below =
    ap (λ (h : Bool). has filter.classes (get_or all (first + k) 0) && not (h && withheld_of b (first + k))) shows
    ∙ and_true (has filter.classes (get_or all (first + k) 0)) ∙ ap (has filter.classes) (sym (run_class all run first k is below))

pub passes_by_class : (b all run : List ℕ) (filter : Filter) (first count : ℕ) → filter.hide_withheld ≡ false → run ≡ take (length run) (drop first all)
    → count ≡ count_by (class_passes filter run) (range_with_len 0 (length run)) → count ≡ count_by (passes b all filter) (range_with_len first (length run))
passes_by_class b all run filter first count shows is counted =
    counted ∙ sym (count_by-from (passes b all filter) (class_passes filter run) first (length run) (λ k below. by_class b all run filter first k shows is below))

-- and where each class passes, all do
pub passes_all : (b all run : List ℕ) (filter : Filter) (first : ℕ) → filter.hide_withheld ≡ false → ((c : ℕ) → c < 256 → has filter.classes c ≡ true)
    → ((k : ℕ) → get_or run k 0 < 256) → run ≡ take (length run) (drop first all) → length run ≡ count_by (passes b all filter) (range_with_len first (length run))
passes_all b all run filter first shows each bytes is =
    sym (count_by-from (passes b all filter) (λ k. true) first (length run) (λ k below. by_class b all run filter first k shows is below ∙ each (get_or run k 0) (bytes k))
    ∙ count_by-each 0 (length run))
