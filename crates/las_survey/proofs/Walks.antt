-- A walk over records that lie in bytes which two files have in common.
use Rattle.std.proofs.Common.{◌≡◌, ℕ, zero, suc, ◌+◌, ◌-◌, ◌≤◌, ◌<◌, List, ◌∷◌, length, get_or, take, drop, min, Bool, true, refl, ap, sym, ◌∙◌, arith, None}
use Rattle.std.specs.Prelude.{map}
use Rattle.std.specs.List.{range_with_len}
use Rattle.std.proofs.lemmas.Bool.Decides.{nat_tests}
use Rattle.std.proofs.lemmas.List.{get_or-take}
use Rattle.std.proofs.lemmas.List.FromFn.{get_or-map-range_with_len}
use Rattle.byteorder.specs.Endian.{little_from}
use Rattle.view_base.specs.declared.fault.SurveyFault.{SurveyFault}
use Rattle.view_base.specs.declared.fault.SurveyFault.TheVariants.{Vlr, Evlr}
use Rattle.view_meaning.specs.Layout.{first_fault, unless, vlr_at, evlr_at, vlr_fits, evlr_fits, vlr_fault, evlr_fault}
use Rattle.view_meaning.specs.Survey.{u8_at, u16_at, u32_at, u64_at}
use Rattle.view_meaning.proofs.Reading.{little_from-take, little_from-drop}
use Rattle.las_vlr.specs.Places.{vlr_place, vlr_places, evlr_place, evlr_places}
use Rattle.las_vlr.proofs.Failing.{first_fault-none}
use Rattle.las_survey.proofs.Laid.{none-each, met}

number-front : (n at m : ℕ) (b c : List ℕ) → take n c ≡ take n b → at + m ≤ n → little_from at m c ≡ little_from at m b
number-front n at m b c same fits = sym (little_from-take at m n c fits) ∙ ap (little_from at m) same ∙ little_from-take at m n b fits

number-back : (n at m : ℕ) (b c : List ℕ) → drop n c ≡ drop n b → n ≤ at → little_from at m c ≡ little_from at m b
number-back n at m b c same from =
    let here : n + (at - n) ≡ at = omega arith in
    ap (λ (k : ℕ). little_from k m c) (sym here) ∙ sym (little_from-drop (at - n) m n c) ∙ ap (little_from (at - n) m) same
    ∙ little_from-drop (at - n) m n b ∙ ap (λ (k : ℕ). little_from k m b) here

-- a number within the first n bytes, which are the same
pub u8_at-front : (n at : ℕ) (b c : List ℕ) → take n c ≡ take n b → at < n → u8_at c at ≡ u8_at b at
unfolding u8_at
u8_at-front n at b c same fits = sym (get_or-take n c at 0 fits) ∙ ap (λ (l : List ℕ). get_or l at 0) same ∙ get_or-take n b at 0 fits

pub u16_at-front : (n at : ℕ) (b c : List ℕ) → take n c ≡ take n b → at + 2 ≤ n → u16_at c at ≡ u16_at b at
unfolding u16_at
u16_at-front n at b c same fits = number-front n at 2 b c same fits

pub u32_at-front : (n at : ℕ) (b c : List ℕ) → take n c ≡ take n b → at + 4 ≤ n → u32_at c at ≡ u32_at b at
unfolding u32_at
u32_at-front n at b c same fits = number-front n at 4 b c same fits

pub u64_at-front : (n at : ℕ) (b c : List ℕ) → take n c ≡ take n b → at + 8 ≤ n → u64_at c at ≡ u64_at b at
unfolding u64_at
u64_at-front n at b c same fits = number-front n at 8 b c same fits

-- a number behind the first n bytes, where the rest is the same
pub u64_at-back : (n at : ℕ) (b c : List ℕ) → drop n c ≡ drop n b → n ≤ at → u64_at c at ≡ u64_at b at
unfolding u64_at
u64_at-back n at b c same from = number-back n at 8 b c same from

each-passes : (p : ℕ → Bool) (f : ℕ → SurveyFault) (count : ℕ) → first_fault (map (λ j. unless (p j) (f j)) (range_with_len 0 count)) ≡ None → (k : ℕ) → k < count → p k ≡ true
each-passes p f count none k below =
    met (p k) (f k) (sym (get_or-map-range_with_len (λ j. unless (p j) (f j)) 0 count k k None below (omega arith)) ∙ none-each _ k none)

same_from : {X : Type 0} (f g : ℕ → X) (a n : ℕ) → ((k : ℕ) → a ≤ k → k < a + n → f k ≡ g k) → map f (range_with_len a n) ≡ map g (range_with_len a n)
same_from f g a zero same = refl
same_from f g a (suc n) same =
    let here : f a ≡ g a = same a (omega arith) (omega arith) in
    let rest : map f (range_with_len (a + 1) n) ≡ map g (range_with_len (a + 1) n) = same_from f g (a + 1) n (λ k from below. same k (omega arith) (omega arith)) in
    λ i. here i ∷ rest i

-- the variable length records that fit a file fit one that has the same bytes up to their end
module _ (b c : List ℕ) (first end count : ℕ) (size : length c ≡ length b) (same : take end c ≡ take end b) (fit : (k : ℕ) → k < count → vlr_fits b first end k ≡ true) where
  ends_within : (k : ℕ) → k < count → vlr_at b first k + 54 + u16_at b (vlr_at b first k + 20) ≤ min end (length b)
  unfolding vlr_fits vlr_at
  ends_within k below = let fits = fit k below in grind (arith, nat_tests)

  length-same : (k : ℕ) → k < count → u16_at c (vlr_at b first k + 20) ≡ u16_at b (vlr_at b first k + 20)
  length-same k below = let within = ends_within k below in u16_at-front end (vlr_at b first k + 20) b c same (omega arith)

  at-same : (k : ℕ) → k ≤ count → vlr_at c first k ≡ vlr_at b first k
  unfolding vlr_at
  at-same zero below = refl
  at-same (suc k) below =
      let before : vlr_at c first k ≡ vlr_at b first k = at-same k (omega arith) in
      rw (before, length-same k (omega arith)) refl

  fits-same : (k : ℕ) → k < count → vlr_fits c first end k ≡ true
  unfolding vlr_fits
  fits-same k below = rw (at-same (suc k) (omega arith), size) (fit k below)

  place-same : (k : ℕ) → k < count → vlr_place c first k ≡ vlr_place b first k
  place-same k below = let here = at-same k (omega arith) in let long = length-same k below in cc (here, long)

-- the extended ones that fit a file fit one that has the same bytes where they begin and after
module _ (b c : List ℕ) (first from count : ℕ) (size : length c ≡ length b) (same : drop from c ≡ drop from b) (fit : (k : ℕ) → k < count → evlr_fits b first from k ≡ true) where
  begins_after : (k : ℕ) → k < count → from ≤ evlr_at b first k
  unfolding evlr_fits
  begins_after k below = let fits = fit k below in grind (arith, nat_tests)

  extended_length-same : (k : ℕ) → k < count → u64_at c (evlr_at b first k + 20) ≡ u64_at b (evlr_at b first k + 20)
  extended_length-same k below = let after = begins_after k below in u64_at-back from (evlr_at b first k + 20) b c same (omega arith)

  extended_at-same : (k : ℕ) → k ≤ count → evlr_at c first k ≡ evlr_at b first k
  unfolding evlr_at
  extended_at-same zero below = refl
  extended_at-same (suc k) below =
      let before : evlr_at c first k ≡ evlr_at b first k = extended_at-same k (omega arith) in
      rw (before, extended_length-same k (omega arith)) refl

  extended_fits-same : (k : ℕ) → k < count → evlr_fits c first from k ≡ true
  unfolding evlr_fits
  extended_fits-same k below = rw (extended_at-same k (omega arith), extended_at-same (suc k) (omega arith), size) (fit k below)

  extended_place-same : (k : ℕ) → k < count → evlr_place c first k ≡ evlr_place b first k
  extended_place-same k below = let here = extended_at-same k (omega arith) in let long = extended_length-same k below in cc (here, long)

-- no fault among the variable length records, and their places
pub vlrs-same : (b c : List ℕ) (first end count : ℕ) → length c ≡ length b → take end c ≡ take end b → vlr_fault b first end count ≡ None
    → (vlr_fault c first end count ≡ None) × (vlr_places c first count ≡ vlr_places b first count)
unfolding vlr_fault vlr_places
vlrs-same b c first end count size same none =
    let fit : (k : ℕ) → k < count → vlr_fits b first end k ≡ true = each-passes (vlr_fits b first end) (λ k. Vlr k (vlr_at b first k)) count none in (
      first_fault-none (vlr_fits c first end) (λ k. Vlr k (vlr_at c first k)) count (fits-same b c first end count size same fit),
      same_from (vlr_place c first) (vlr_place b first) 0 count (λ k _ below. place-same b c first end count size same fit k (omega arith)),
    )

-- no fault among the extended ones, and their places
pub evlrs-same : (b c : List ℕ) (first from count : ℕ) → length c ≡ length b → drop from c ≡ drop from b → evlr_fault b first from count ≡ None
    → (evlr_fault c first from count ≡ None) × (evlr_places c first count ≡ evlr_places b first count)
unfolding evlr_fault evlr_places
evlrs-same b c first from count size same none =
    let fit : (k : ℕ) → k < count → evlr_fits b first from k ≡ true = each-passes (evlr_fits b first from) (λ k. Evlr k (evlr_at b first k)) count none in (
      first_fault-none (evlr_fits c first from) (λ k. Evlr k (evlr_at c first k)) count (extended_fits-same b c first from count size same fit),
      same_from (evlr_place c first) (evlr_place b first) 0 count (λ k _ below. extended_place-same b c first from count size same fit k (omega arith)),
    )
