-- The variable length records that a walk has passed.
use Rattle.std.proofs.Common.{◌≡◌, ℕ, ◌+◌, ◌*◌, ◌≤◌, ◌<◌, List, [], ◌∷◌, ◌++◌, length, min, true, false, refl, ap, sym, ◌∙◌, arith, Some, None, add-one}
use Rattle.std.proofs.lemmas.Bool.Decides.{nat_tests}
use Rattle.std.proofs.lemmas.List.FromFn.{map-range_with_len_more, length-map-range_with_len}
use Rattle.view_base.specs.declared.fault.SurveyFault.TheVariants.{Vlr}
use Rattle.view_meaning.specs.Layout.{vlr_at, vlr_fits, vlr_fault}
use Rattle.view_meaning.specs.Survey.{u16_at}
use Rattle.las_vlr.specs.declared.place.VlrPlace.{VlrPlace}
use Rattle.las_vlr.specs.Places.{vlr_place, vlr_places}
use Rattle.las_vlr.proofs.Failing.{first_fault-none, first_fault-some, passes_more}

-- the first k records fit and have these places, and the next begins at a place
pub record IsWalked (b : List ℕ) (first end k at : ℕ) (places : List VlrPlace) : Type 0 where
  pub places_are : places ≡ vlr_places b first k
  pub here : at ≡ vlr_at b first k
  pub fit : (i : ℕ) → i < k → vlr_fits b first end i ≡ true
  pub from : 54 * k ≤ at
  pub few : 54 * k ≤ length b

pub walked_none : (b : List ℕ) (first end : ℕ) → IsWalked b first end 0 first []
unfolding vlr_at vlr_places
walked_none b first end = record { places_are = refl; here = refl; fit = λ i below. absurd (omega arith); from = omega arith; few = omega arith }

vlr_at-next : (b : List ℕ) (first k at : ℕ) → at ≡ vlr_at b first k → at + 54 + u16_at b (at + 20) ≡ vlr_at b first (k + 1)
unfolding vlr_at
vlr_at-next b first k at here = rw (here, add-one) refl

vlr_fits-here : (b : List ℕ) (first end k at : ℕ) → at ≡ vlr_at b first k → at + 54 + u16_at b (at + 20) ≤ min end (length b) → vlr_fits b first end k ≡ true
unfolding vlr_fits vlr_at
vlr_fits-here b first end k at here within =
    let h : vlr_at b first k + 54 + u16_at b (vlr_at b first k + 20) ≤ min end (length b) = rw (← here) within in
    grind (arith, nat_tests)

vlr_fits-not : (b : List ℕ) (first end k at : ℕ) → at ≡ vlr_at b first k → min end (length b) < at + 54 + u16_at b (at + 20) → vlr_fits b first end k ≡ false
unfolding vlr_fits vlr_at
vlr_fits-not b first end k at here beyond =
    let h : min end (length b) < vlr_at b first k + 54 + u16_at b (vlr_at b first k + 20) = rw (← here) beyond in
    grind (arith, nat_tests)

-- one more record that fits
pub walked_more : (b : List ℕ) (first end last k at len : ℕ) (places : List VlrPlace) → IsWalked b first end k at places → last ≡ min end (length b)
    → len ≡ u16_at b (at + 20) → at + 54 + len ≤ last → IsWalked b first end (k + 1) (at + (54 + len)) (places ++ record { at = at; «length» = len } ∷ [])
unfolding vlr_places
walked_more b first end last k at len places walked last_is read within =
    let more = map-range_with_len_more (vlr_place b first) 0 k k (omega arith) in
    let w : at + 54 + u16_at b (at + 20) ≤ min end (length b) = omega arith in
    record {
      places_are = cc (more, walked.places_are, walked.here, read);
      here = (let e : at + (54 + len) ≡ at + 54 + u16_at b (at + 20) = omega arith in e ∙ vlr_at-next b first k at walked.here);
      fit = passes_more (vlr_fits b first end) k walked.fit (vlr_fits-here b first end k at walked.here w);
      from = omega arith;
      few = omega arith;
    }

-- as many places as records fit in the bytes
pub walked_few : (b : List ℕ) (first end k at : ℕ) (places : List VlrPlace) → IsWalked b first end k at places → 54 * length places ≤ length b
unfolding vlr_places
walked_few b first end k at places walked =
    let size : length places ≡ k = ap length walked.places_are ∙ length-map-range_with_len (vlr_place b first) 0 k in
    let few : 54 * k ≤ length b = walked.few in
    omega arith

-- all of them fit
pub walked_all : (b : List ℕ) (first end count at : ℕ) (places : List VlrPlace) → IsWalked b first end count at places → vlr_fault b first end count ≡ None
unfolding vlr_fault
walked_all b first end count at places walked = first_fault-none (vlr_fits b first end) (λ k. Vlr k (vlr_at b first k)) count walked.fit

-- the next does not fit
pub walked_stop : (b : List ℕ) (first end last count k at : ℕ) (places : List VlrPlace) → IsWalked b first end k at places → last ≡ min end (length b)
    → k < count → last < at + 54 + u16_at b (at + 20) → vlr_fault b first end count ≡ Some (Vlr k at)
unfolding vlr_fault
walked_stop b first end last count k at places walked last_is below beyond =
    first_fault-some (vlr_fits b first end) (λ i. Vlr i (vlr_at b first i)) count k walked.fit below (vlr_fits-not b first end k at walked.here (omega arith))
    ∙ ap (λ (m : ℕ). Some (Vlr k m)) (sym walked.here)
