-- The extended variable length records that a walk has passed.
use Rattle.std.proofs.Common.{◌≡◌, ℕ, ◌+◌, ◌*◌, ◌≤◌, ◌<◌, List, [], ◌∷◌, ◌++◌, length, true, false, refl, ap, sym, ◌∙◌, arith, Some, None, add-one}
use Rattle.std.proofs.lemmas.Bool.Decides.{nat_tests}
use Rattle.std.proofs.lemmas.List.FromFn.{map-range_with_len_more, length-map-range_with_len}
use Rattle.view_base.specs.declared.fault.SurveyFault.TheVariants.{Evlr}
use Rattle.view_meaning.specs.Layout.{evlr_at, evlr_fits, evlr_fault}
use Rattle.view_meaning.specs.Survey.{u64_at}
use Rattle.las_vlr.specs.declared.place.VlrPlace.{VlrPlace}
use Rattle.las_vlr.specs.Places.{evlr_place, evlr_places}
use Rattle.las_vlr.proofs.Failing.{first_fault-none, first_fault-some, passes_more}

-- the first k records fit and have these places, and the next begins at a place
pub record IsWalkedFar (b : List ℕ) (first points_end k at : ℕ) (places : List VlrPlace) : Type 0 where
  pub places_are : places ≡ evlr_places b first k
  pub here : at ≡ evlr_at b first k
  pub fit : (i : ℕ) → i < k → evlr_fits b first points_end i ≡ true
  pub from : 60 * k ≤ at
  pub few : 60 * k ≤ length b

pub walked_none : (b : List ℕ) (first points_end : ℕ) → IsWalkedFar b first points_end 0 first []
unfolding evlr_at evlr_places
walked_none b first points_end = record { places_are = refl; here = refl; fit = λ i below. absurd (omega arith); from = omega arith; few = omega arith }

evlr_at-next : (b : List ℕ) (first k at : ℕ) → at ≡ evlr_at b first k → at + 60 + u64_at b (at + 20) ≡ evlr_at b first (k + 1)
unfolding evlr_at
evlr_at-next b first k at here = rw (here, add-one) refl

evlr_fits-here : (b : List ℕ) (first points_end k at : ℕ) → at ≡ evlr_at b first k → points_end ≤ at → at + 60 + u64_at b (at + 20) ≤ length b
    → evlr_fits b first points_end k ≡ true
unfolding evlr_fits evlr_at
evlr_fits-here b first points_end k at here after within =
    let a : points_end ≤ evlr_at b first k = rw (← here) after in
    let h : evlr_at b first k + 60 + u64_at b (evlr_at b first k + 20) ≤ length b = rw (← here) within in
    grind (arith, nat_tests)

evlr_fits-not : (b : List ℕ) (first points_end k at : ℕ) → at ≡ evlr_at b first k → (points_end ≤ at → length b < at + 60 + u64_at b (at + 20))
    → evlr_fits b first points_end k ≡ false
unfolding evlr_fits evlr_at
evlr_fits-not b first points_end k at here beyond =
    let h : points_end ≤ evlr_at b first k → length b < evlr_at b first k + 60 + u64_at b (evlr_at b first k + 20) = rw (← here) beyond in
    grind (arith, nat_tests)

-- one more record that fits
pub walked_more : (b : List ℕ) (first points_end k at len : ℕ) (places : List VlrPlace) → IsWalkedFar b first points_end k at places → points_end ≤ at
    → len ≡ u64_at b (at + 20) → at + 60 + len ≤ length b
    → IsWalkedFar b first points_end (k + 1) (at + (60 + len)) (places ++ record { at = at; «length» = len } ∷ [])
unfolding evlr_places
walked_more b first points_end k at len places walked after read within =
    let more = map-range_with_len_more (evlr_place b first) 0 k k (omega arith) in
    let w : at + 60 + u64_at b (at + 20) ≤ length b = omega arith in
    record {
      places_are = cc (more, walked.places_are, walked.here, read);
      here = (let e : at + (60 + len) ≡ at + 60 + u64_at b (at + 20) = omega arith in e ∙ evlr_at-next b first k at walked.here);
      fit = passes_more (evlr_fits b first points_end) k walked.fit (evlr_fits-here b first points_end k at walked.here after w);
      from = omega arith;
      few = omega arith;
    }

-- as many places as records fit in the bytes
pub walked_few : (b : List ℕ) (first points_end k at : ℕ) (places : List VlrPlace) → IsWalkedFar b first points_end k at places → 60 * length places ≤ length b
unfolding evlr_places
walked_few b first points_end k at places walked =
    let size : length places ≡ k = ap length walked.places_are ∙ length-map-range_with_len (evlr_place b first) 0 k in
    let few : 60 * k ≤ length b = walked.few in
    omega arith

-- all of them fit
pub walked_all : (b : List ℕ) (first points_end count at : ℕ) (places : List VlrPlace) → IsWalkedFar b first points_end count at places
    → evlr_fault b first points_end count ≡ None
unfolding evlr_fault
walked_all b first points_end count at places walked = first_fault-none (evlr_fits b first points_end) (λ k. Evlr k (evlr_at b first k)) count walked.fit

-- the next does not fit
pub walked_stop : (b : List ℕ) (first points_end count k at : ℕ) (places : List VlrPlace) → IsWalkedFar b first points_end k at places → k < count
    → (points_end ≤ at → length b < at + 60 + u64_at b (at + 20)) → evlr_fault b first points_end count ≡ Some (Evlr k at)
unfolding evlr_fault
walked_stop b first points_end count k at places walked below beyond =
    first_fault-some (evlr_fits b first points_end) (λ i. Evlr i (evlr_at b first i)) count k walked.fit below (evlr_fits-not b first points_end k at walked.here beyond)
    ∙ ap (λ (m : ℕ). Some (Evlr k m)) (sym walked.here)
