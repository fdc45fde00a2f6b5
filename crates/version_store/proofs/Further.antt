-- Classes that are picked for one record after another.
use Rattle.std.proofs.Common.{◌≡◌, ◌≢◌, ℕ, zero, suc, ◌+◌, ◌<◌, ◌≤◌, ◌==◌, ◌&&◌, not, Bool, true, false, cond, if◌then◌else◌, List, length, get_or, set, take, map, inl, inr, refl, sym, ◌∙◌, ap, subst, arith, All, count_by}
use Rattle.std.specs.Prelude.{◌⊎◌}
use Rattle.std.proofs.lemmas.Bool.{cases_eq, cases_lt}
use Rattle.std.proofs.lemmas.Bool.Decides.{nat_tests}
use Rattle.std.proofs.lemmas.List.{length-set, get_or-set_same, get_or-set_other, get_or_default, get_or-map, get_or-take, length-take, take_all}
use Rattle.std.specs.List.{range_with_len}
use Rattle.view_base.specs.declared.place.Point.{Point}
use Rattle.view_meaning.specs.Survey.{point_of}
use Rattle.view_base.specs.declared.place.Box3.{Box3}
use Rattle.view_meaning.specs.Classes.{in_box, changed}
use Rattle.class_pages.specs.Choosing.{Pick, IsPicked, IsSettled, Leaves}
use Rattle.version_store.specs.Underway.{after_at, IsUnderway, IsMadeOf, IsFurther}
use Rattle.class_pages.proofs.Steps.{counts_more, counts_same}

-- what is picked once more for a class that is the one before or the one picked
after_either : (pick : Pick) (p : Point) (c now : ℕ) → IsSettled pick → (now ≡ c) ⊎ (now ≡ pick p c) → pick p now ≡ pick p c
after_either pick p c now settled (inl same) = ap (pick p) same
after_either pick p c now settled (inr made) = ap (pick p) made ∙ settled p c

abbrev one_if : Bool → ℕ
one_if t = cond t 1 0

-- one more number meets a test
counts_one : (a m n : ℕ) (p q : ℕ → Bool) → a ≤ n → n < a + m → p n ≡ false → q n ≡ true → ((k : ℕ) → k ≢ n → p k ≡ q k) → count_by q (range_with_len a m) ≡ count_by p (range_with_len a m) + 1
counts_one a zero n p q low lt fails meets same = absurd (omega (arith, low, lt))
counts_one a (suc m) n p q low lt fails meets same =
    let last_p : count_by p (range_with_len a (suc m)) ≡ count_by p (range_with_len a m) + cond (p (a + m)) 1 0 = counts_more a m (a + m) p refl in
    let last_q : count_by q (range_with_len a (suc m)) ≡ count_by q (range_with_len a m) + cond (q (a + m)) 1 0 = counts_more a m (a + m) q refl in
    elim (cases_lt n (a + m)) [
      | inl below ↦
          let rest : count_by q (range_with_len a m) ≡ count_by p (range_with_len a m) + 1 = counts_one a m n p q low below fails meets same in
          let last : one_if (p (a + m)) ≡ one_if (q (a + m)) = ap one_if (same (a + m) (λ e. omega (arith, e, below))) in
          omega (arith, last_p, last_q, rest, last)
      | inr least ↦
          let here : a + m ≡ n = omega (arith, lt, least) in
          let rest : count_by p (range_with_len a m) ≡ count_by q (range_with_len a m) = counts_same a m p q (λ k from upto. same k (λ e. omega (arith, e, upto, here))) in
          let none : one_if (p (a + m)) ≡ 0 = ap one_if (ap p here ∙ fails) in
          let one : one_if (q (a + m)) ≡ 1 = ap one_if (ap q here ∙ meets) in
          omega (arith, last_p, last_q, rest, none, one)
    ]

-- one more class differs from before
changed_one : (old mid new : List ℕ) (n : ℕ) → n < length old → get_or mid n 0 ≡ get_or old n 0 → get_or new n 0 ≢ get_or old n 0 → ((k : ℕ) → k ≢ n → get_or new k 0 ≡ get_or mid k 0) → changed old new ≡ changed old mid + 1
unfolding changed
changed_one old mid new n lt same other rest =
    counts_one 0 (length old) n (λ i. not (get_or old i 0 == get_or mid i 0)) (λ i. not (get_or old i 0 == get_or new i 0)) (omega arith) (omega (arith, lt))
    (equal (get_or old n 0) (get_or mid n 0) same) (apart (get_or old n 0) (get_or new n 0) other) (λ k elsewhere. ap (λ (v : ℕ). not (get_or old k 0 == v)) (sym (rest k elsewhere)))
  where
    equal : (v w : ℕ) → w ≡ v → not (v == w) ≡ false
    equal v w is = grind (arith, nat_tests)

    apart : (v w : ℕ) → w ≢ v → not (v == w) ≡ true
    apart v w is = grind (arith, nat_tests)

-- as many classes differ from before
changed_alike : (old mid new : List ℕ) → ((k : ℕ) → get_or new k 0 ≡ get_or mid k 0) → changed old mid ≡ changed old new
unfolding changed
changed_alike old mid new same =
    counts_same 0 (length old) (λ i. not (get_or old i 0 == get_or mid i 0)) (λ i. not (get_or old i 0 == get_or new i 0))
    (λ k low lt. ap (λ (v : ℕ). not (get_or old k 0 == v)) (sym (same k)))

-- one more class that an edit makes, and counts where it was another one
counted_step : (old mid new : List ℕ) (n v step : ℕ) → n < length old → (get_or mid n 0 ≡ get_or old n 0) ⊎ (get_or mid n 0 ≡ v) → get_or new n 0 ≡ v → ((k : ℕ) → k ≢ n → get_or new k 0 ≡ get_or mid k 0)
    → step ≡ (if v == get_or mid n 0 then 0 else 1) → changed old mid + step ≡ changed old new
counted_step old mid new n v step lt was made rest counted = elim (cases_eq v (get_or mid n 0)) [
  | inl same ↦
      let none : step ≡ 0 = no_step v (get_or mid n 0) same counted in
      let alike : changed old mid ≡ changed old new = changed_alike old mid new (λ k. elim (cases_eq k n) [
        | inl here ↦ ap (λ (m : ℕ). get_or new m 0) here ∙ made ∙ same ∙ ap (λ (m : ℕ). get_or mid m 0) (sym here)
        | inr other ↦ rest k other
      ]) in
      omega (arith, none, alike)
  | inr other ↦
      let one : step ≡ 1 = one_step v (get_or mid n 0) other counted in
      let more : changed old new ≡ changed old mid + 1 = by_case was other in
      omega (arith, one, more)
]
  where
    no_step : (v w : ℕ) → v ≡ w → step ≡ (if v == w then 0 else 1) → step ≡ 0
    no_step v w is counted = grind (arith, nat_tests)

    one_step : (v w : ℕ) → v ≢ w → step ≡ (if v == w then 0 else 1) → step ≡ 1
    one_step v w is counted = grind (arith, nat_tests)

    by_case : (get_or mid n 0 ≡ get_or old n 0) ⊎ (get_or mid n 0 ≡ v) → v ≢ get_or mid n 0 → changed old new ≡ changed old mid + 1
    by_case (inl unchanged) other = changed_one old mid new n lt unchanged (λ e. other (sym made ∙ e ∙ sym unchanged)) rest
    by_case (inr already) other = absurd (other (sym already))

-- nothing is made yet
pub further_none : (b : List ℕ) (pick : Pick) (old mid numbers : List ℕ) → IsUnderway b pick old mid → IsFurther b pick old mid mid (take 0 numbers) 0
further_none b pick old mid numbers h = record {
  underway = h;
  kept = λ i is. is;
  made = λ k d lt. absurd (omega (arith, lt));
  count = omega arith;
}

-- a step counts one at most
pub step_most : (t : Bool) (step : ℕ) → step ≡ (if t then 0 else 1) → step ≤ 1
step_most true step is = omega (arith, is)
step_most false step is = omega (arith, is)

-- the point of the record at a place of a list
pub point_at_place : (b numbers : List ℕ) (points : List Point) (place : ℕ) (d : Point) → points ≡ map (point_of b) numbers → place < length numbers → get_or points place d ≡ point_of b (get_or numbers place 0)
point_at_place b numbers points place d are lt = ap (λ (l : List Point). get_or l place d) are ∙ get_or-map (point_of b) numbers place 0 d lt

-- one more record, for which the class is picked as at its own point
pub further_more : (b : List ℕ) (pick : Pick) (old start mid new numbers : List ℕ) (j next n count step : ℕ) (q : Point) → next ≡ j + 1 → j < length numbers → n ≡ get_or numbers j 0 → n < length old → IsSettled pick
    → ((class : ℕ) → pick q class ≡ pick (point_of b n) class) → IsPicked pick q n mid new step → IsFurther b pick old start mid (take j numbers) count → IsFurther b pick old start new (take next numbers) (count + step)
further_more b pick old start mid new numbers j next n count step q more in_numbers is lt settled alike picked h =
    let v = pick q (get_or mid n 0) in
    let size : length mid ≡ length old = h.underway.size in
    let after : pick q (get_or mid n 0) ≡ after_at b old pick n = alike (get_or mid n 0) ∙ after_either pick (point_of b n) (get_or old n 0) (get_or mid n 0) settled (h.underway.each n lt) in
    let here : get_or new n 0 ≡ pick q (get_or mid n 0) = ap (λ (l : List ℕ). get_or l n 0) picked.made ∙ get_or-set_same mid n v 0 (omega (arith, lt, size)) in
    let others : (k : ℕ) → k ≢ n → get_or new k 0 ≡ get_or mid k 0 = λ k other. ap (λ (l : List ℕ). get_or l k 0) picked.made ∙ get_or-set_other mid n k v 0 other in
    let keeps : (k : ℕ) → get_or mid k 0 ≡ after_at b old pick k → get_or new k 0 ≡ after_at b old pick k = λ k was. elim (cases_eq k n) [
      | inl same ↦ ap (λ (m : ℕ). get_or new m 0) same ∙ here ∙ after ∙ ap (after_at b old pick) (sym same)
      | inr other ↦ others k other ∙ was
    ] in
    record {
      underway = record {
        size = ap length picked.made ∙ length-set mid n v ∙ size;
        each = λ k within. elim (cases_eq k n) [
          | inl same ↦ inr (ap (λ (m : ℕ). get_or new m 0) same ∙ here ∙ after ∙ ap (after_at b old pick) (sym same))
          | inr other ↦ carried (get_or new k 0) (get_or mid k 0) (get_or old k 0) (after_at b old pick k) (others k other) (h.underway.each k within)
        ];
      };
      kept = λ k was. keeps k (h.kept k was);
      made = λ k d within.
          let long : length (take next numbers) ≡ _ = length-take next numbers in
          let below : k < next = omega (arith, within, long) in
          let inside : k < length numbers = omega (arith, within, long) in
          subst (λ (m : ℕ). get_or new m 0 ≡ after_at b old pick m) (sym (get_or-take next numbers k d below)) (elim (cases_lt k j) [
            | inl earlier ↦
                let long_before : length (take j numbers) ≡ _ = length-take j numbers in
                subst (λ (m : ℕ). get_or new m 0 ≡ after_at b old pick m) (get_or-take j numbers k d earlier) (keeps (get_or (take j numbers) k d) (h.made k d (omega (arith, earlier, inside, long_before))))
            | inr last ↦
                let same : k ≡ j = omega (arith, below, more, last) in
                let number : n ≡ get_or numbers k d = is ∙ get_or_default numbers j 0 d in_numbers ∙ ap (λ (m : ℕ). get_or numbers m d) (sym same) in
                subst (λ (m : ℕ). get_or new m 0 ≡ after_at b old pick m) number (here ∙ after)
          ]);
      count =
          let step_is : changed old mid + step ≡ changed old new = counted_step old mid new n v step lt (either_way (get_or mid n 0) (get_or old n 0) v (after_at b old pick n) after (h.underway.each n lt)) here others picked.count in
          omega (arith, step_is, h.count);
    }
  where
    either_way : (mid old v made : ℕ) → v ≡ made → (mid ≡ old) ⊎ (mid ≡ made) → (mid ≡ old) ⊎ (mid ≡ v)
    either_way mid old v made is (inl same) = inl same
    either_way mid old v made is (inr other) = inr (other ∙ sym is)

    carried : (new mid old made : ℕ) → new ≡ mid → (mid ≡ old) ⊎ (mid ≡ made) → (new ≡ old) ⊎ (new ≡ made)
    carried new mid old made is (inl same) = inl (is ∙ same)
    carried new mid old made is (inr other) = inr (is ∙ other)

-- all of them
pub further_all : (b : List ℕ) (pick : Pick) (old start new numbers : List ℕ) (j count : ℕ) → length numbers ≤ j → IsFurther b pick old start new (take j numbers) count → IsFurther b pick old start new numbers count
further_all b pick old start new numbers j count last h = subst (λ (l : List ℕ). IsFurther b pick old start new l count) (take_all j numbers last) h

-- records in a box where each class is picked for itself are as after it already
pub made_left : (b : List ℕ) (pick : Pick) (area : Box3) (old new numbers : List ℕ) → IsUnderway b pick old new → All (λ i. i < length old) numbers → Leaves pick area → All (λ i. in_box area (point_of b i) ≡ true) numbers → IsMadeOf b pick old new numbers
made_left b pick area old new numbers h below leaves inside = λ k d lt.
    let n = get_or numbers k d in
    stays (get_or old n 0) (get_or new n 0) (pick (point_of b n) (get_or old n 0)) (leaves (point_of b n) (get_or old n 0) (inside k d lt)) (h.each n (below k d lt))
  where
    stays : (c now after : ℕ) → after ≡ c → (now ≡ c) ⊎ (now ≡ after) → now ≡ after
    stays c now after left (inl same) = same ∙ sym left
    stays c now after left (inr made) = made
