-- A claim keeps the rule.
use Rattle.std.proofs.Common.{◌≡◌, ℕ, zero, suc, ◌+◌, ◌%◌, ◌^◌, ◌<◌, ◌≤◌, ◌==◌, min, max, true, nat_lt, List, [], ◌∷◌, ◌++◌, length, slice_set, slice_index, All, refl, sym, subst, ◌∙◌, arith, mod-eq_of_lt}
use Rattle.std.proofs.lemmas.Bool.Decides.{nat_tests}
use Rattle.std.proofs.lemmas.List.{length-set, get_or-set_same, get_or-set_other}
use mathlib.Core.Logic.{dite}
use mathlib.Core.Option.{some, none}
use native.Mathlib.Decide.{dec_le}
use lib.ListN.{get_elem?}
use Rattle.atomic_table.specs.Table.{Me, Allows, step, keeps}
use Rattle.min_frame.specs.declared.view.Size.{Size}
use Rattle.min_frame.specs.declared.view.View.{View}
use Rattle.min_frame.specs.Claimed.{times}
use Rattle.min_frame.specs.Rule.{one_if, IsKept, Claims, claimed, ended}
use Rattle.min_frame.proofs.Leasts.{least-same_plots}
use Rattle.min_frame.proofs.Totals.{total-set, total_has}
use Rattle.min_frame.proofs.Views.{each_set, still_live}

pub times-append : (n : ℕ) (ks ls : List ℕ) → times n (ks ++ ls) ≡ times n ks + times n ls
times-append n [] ls = omega arith
times-append n (k ∷ ks) ls = let later = times-append n ks ls in omega arith

-- what holds of each number that stands in the list at least once
pub all_of_times : (P : ℕ → Type 0) (ks : List ℕ) → ((n : ℕ) → 1 ≤ times n ks → P n) → All P ks
all_of_times P [] each k d low = absurd (omega arith)
all_of_times P (n ∷ ns) each zero d low = each n (grind (arith, nat_tests))
all_of_times P (n ∷ ns) each (suc k) d low = all_of_times P ns (λ m once. each m (omega arith)) k d (omega arith)

-- one more than the greatest number of the list, or 0 where it is empty: it rises with each claim, so a loop that claims until nothing is left ends
abbrev pub above_all : List ℕ → ℕ
above_all [] = 0
above_all (k ∷ ks) = max (k + 1) (above_all ks)

pub above_all-le : (ks : List ℕ) (n : ℕ) → All (λ k. k < n) ks → above_all ks ≤ n
above_all-le [] n each = omega arith
above_all-le (k ∷ ks) n each = let here = each 0 0 (omega arith) in let later = above_all-le ks n (λ i d low. each (suc i) d (omega arith)) in omega arith

pub above_all-push : (ks : List ℕ) (n : ℕ) → All (λ k. k < n) ks → above_all (ks ++ n ∷ []) ≡ n + 1
above_all-push [] n each = omega arith
above_all-push (k ∷ ks) n each =
    let here = each 0 0 (omega arith) in let later = above_all-push ks n (λ i d low. each (suc i) d (omega arith)) in omega arith

-- one more number was claimed
claim_some : (w n blocks : ℕ) → w < blocks → one_if (nat_lt n (min (w + 1) blocks)) ≡ one_if (nat_lt n (min w blocks)) + one_if (w == n)
claim_some w n blocks low = grind (arith, nat_tests)

-- the claim word after its step
claim_word : (words : List ℕ) (place next : ℕ) → length words ≡ place + 1 → slice_index (slice_set words place next) place ≡ next
claim_word words place next long = get_or-set_same words place next 0 (omega arith)

pixel_word : (words : List ℕ) (place next x : ℕ) → x < place → slice_index (slice_set words place next) x ≡ slice_index words x
pixel_word words place next x low = get_or-set_other words place x next 0 (λ e. omega arith)

claim_takes : (size : Size) (words : List ℕ) (views : List View) (id : ℕ) (v : View)
    → slice_index words size.pixels < size.blocks → v.live ≡ true → IsKept size words views → get_elem? views id ≡ some v
    → IsKept size (slice_set words size.pixels (slice_index words size.pixels + 1)) (slice_set views id (claimed v (slice_index words size.pixels)))
claim_takes size words views id v low live kept at =
    let found = slice_index words size.pixels in
    let w : View = claimed v found in
    let is = claim_word words size.pixels (found + 1) kept.places in
    record {
      small = kept.small;
      places = length-set words size.pixels (found + 1) ∙ kept.places;
      pixels = λ x inside. pixel_word words size.pixels (found + 1) x inside ∙ kept.pixels x inside ∙ sym (least-same_plots views id v w x at refl);
      claims = λ n. rw is (omega (arith, total-set (λ u. times n u.claims) views id v w at, times-append n v.claims (found ∷ []), kept.claims n, claim_some found n size.blocks low));
      ends = rw is (omega (arith, total-set (λ u. u.ends) views id v w at, kept.ends));
      root = omega (arith, total-set (λ u. one_if u.root) views id v w at, kept.root);
      others = omega (arith, total-set (λ u. one_if u.live) views id v w at, total-set (λ u. u.out) views id v w at, kept.others);
      each = each_set views id v w at (λ f. record { joined = λ dead. absurd (still_live v live dead); worker = f.worker }) kept.each;
    }

claim_ends : (size : Size) (words : List ℕ) (views : List View) (id : ℕ) (v : View)
    → size.blocks ≤ slice_index words size.pixels → 1 ≤ v.ends → v.live ≡ true → IsKept size words views → get_elem? views id ≡ some v
    → IsKept size (slice_set words size.pixels (slice_index words size.pixels + 1)) (slice_set views id (ended v))
claim_ends size words views id v high one live kept at =
    let found = slice_index words size.pixels in
    let w : View = ended v in
    let is = claim_word words size.pixels (found + 1) kept.places in
    record {
      small = kept.small;
      places = length-set words size.pixels (found + 1) ∙ kept.places;
      pixels = λ x inside. pixel_word words size.pixels (found + 1) x inside ∙ kept.pixels x inside ∙ sym (least-same_plots views id v w x at refl);
      claims = λ n. rw is (let same : min (found + 1) size.blocks ≡ min found size.blocks = omega arith in rw same (omega (arith, total-set (λ u. times n u.claims) views id v w at, kept.claims n)));
      ends = rw is (omega (arith, total-set (λ u. u.ends) views id v w at, kept.ends));
      root = omega (arith, total-set (λ u. one_if u.root) views id v w at, kept.root);
      others = omega (arith, total-set (λ u. one_if u.live) views id v w at, total-set (λ u. u.out) views id v w at, kept.others);
      each = each_set views id v w at (λ f. record { joined = λ dead. absurd (still_live v live dead); worker = f.worker }) kept.each;
    }

below_word : (n w blocks : ℕ) → 1 ≤ one_if (nat_lt n (min w blocks)) → n < w
below_word n w blocks one = grind (arith, nat_tests)

-- the number found is above all that the seat claimed
claim_above : (size : Size) (words : List ℕ) (views : List View) (id : ℕ) (v : View) → IsKept size words views → get_elem? views id ≡ some v
    → All (λ n. n < slice_index words size.pixels) v.claims
claim_above size words views id v kept at =
    all_of_times (λ n. n < slice_index words size.pixels) v.claims (λ n once. below_word n (slice_index words size.pixels) size.blocks (omega (arith, total_has (λ u. times n u.claims) views id v at, kept.claims n)))

claim_allows_at : (size : Size) (slots id blocks : ℕ) (me : Me (Unit {0}) View) → 1 ≤ me.0.ends → me.0.live ≡ true → size.blocks ≡ blocks
    → Allows (λ s. IsKept size s.words s.views) slots id me size.pixels (λ n. (n + 1) % 2 ^ 64) (Claims blocks (step slots size.pixels 1 0 none) me)
claim_allows_at size slots id blocks me one live is = λ s kept homes at small.
    let found = slice_index s.words size.pixels in
    let fits : found + 1 < 2 ^ 64 = omega (arith, kept.small, kept.ends, total_has (λ u. u.ends) s.views id me.0 at) in
    let whole : (found + 1) % 2 ^ 64 ≡ found + 1 = mod-eq_of_lt fits in
    dite (dec_le size.blocks found)
    (λ high. (
      ended me.0,
      keeps,
      tt,
      rw whole (claim_ends size s.words s.views id me.0 high one live kept at),
      record {
        slots = refl;
        taken = λ low. absurd (omega arith);
        above = λ low. claim_above size s.words s.views id me.0 kept at;
        ended = λ h. refl;
      },
    ))
    (λ low. (
      claimed me.0 found,
      keeps,
      tt,
      rw whole (claim_takes size s.words s.views id me.0 (omega (arith, low)) live kept at),
      record {
        slots = refl;
        taken = λ h. refl;
        above = λ h. claim_above size s.words s.views id me.0 kept at;
        ended = λ h. absurd (low (omega arith));
      },
    ))

pub claim_allows : (size : Size) (slots id place blocks : ℕ) (me : Me (Unit {0}) View) → 1 ≤ me.0.ends → me.0.live ≡ true → size.pixels ≡ place → size.blocks ≡ blocks
    → Allows (λ s. IsKept size s.words s.views) slots id me place (λ n. (n + 1) % 2 ^ 64) (Claims blocks (step slots place 1 0 none) me)
claim_allows size slots id place blocks me one live at_place is =
    let P : ℕ → Type 0 = λ p. Allows (λ s. IsKept size s.words s.views) slots id me p (λ n. (n + 1) % 2 ^ 64) (Claims blocks (step slots p 1 0 none) me) in
    subst P at_place (claim_allows_at size slots id blocks me one live is)
