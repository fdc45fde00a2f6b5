use Rattle.std.proofs.Common.{◌≡◌, ℕ, ◌+◌, ◌<◌, ◌≤◌, inl, inr, List, length, slice_index, Contains, arith, sym, ◌∙◌, subst}
use Rattle.std.proofs.lemmas.Bool.{cases_lt}
use Rattle.std.proofs.lemmas.List.{get_or_default}
use Rattle.view_ends.proofs.failing.Failing.room.Goals as goal

-- the end is one of the places: the one that cut, or the one that had cut before
ends_at_place : (xs : List ℕ) (at i old new most : ℕ) → i < length xs → new ≤ old → (new < old → at + new ≡ slice_index xs i) → (old < most → Contains xs (at + old)) → new < most → Contains xs (at + new)
ends_at_place xs at i old new most inside le cut had short =
    elim (cases_lt new old) [
      | inl less ↦ (i, inside, get_or_default xs i (at + new) 0 inside ∙ sym (cut less))
      | inr more ↦ let same : old ≡ new = omega arith in subst (λ n. Contains xs (at + n)) same (had (omega arith))
    ]

-- no place so far lies among the bytes
before_places : (xs : List ℕ) (at i old new : ℕ) → new ≤ old → (at < slice_index xs i → at + new ≤ slice_index xs i) → ((k : ℕ) → k < i → at < slice_index xs k → at + old ≤ slice_index xs k) → (k : ℕ) → k < i + 1 → at < slice_index xs k → at + new ≤ slice_index xs k
before_places xs at i old new le here below k h behind =
    elim (cases_lt k i) [
      | inl less ↦ let far = below k less behind in omega arith
      | inr more ↦ let same : k ≡ i = omega arith in let far = here (rw same at behind) in rw same far
    ]

pub loop-place-preserved : goal.loop-place-preserved
loop-place-preserved c =
    let places = c.deref-place-items.result.now in
    record {
      within = omega arith;
      before = before_places places c.args.at c.loop-place.place-index c.loop-place.room c.cut_before-room.result c.cut_before-room.ensures.within c.cut_before-room.ensures.before c.loop-place.invariant.before;
      some = λ more. c.cut_before-room.ensures.some (c.loop-place.invariant.some more);
      full = ends_at_place places c.args.at c.loop-place.place-index c.loop-place.room c.cut_before-room.result c.args.most c.loop-place-test.true c.cut_before-room.ensures.within c.cut_before-room.ensures.cut c.loop-place.invariant.full;
    }
