-- The nearest record is what its name says: none is nearer, and none as near has a lower number.
use Rattle.std.proofs.Common.{◌≡◌, ℕ, zero, suc, ◌<◌, ◌≤◌, ◌⊎◌, inl, inr, List, Option, Some, None, Bool, true, false, if◌then◌else◌, nat_lt, refl, sym, subst, arith}
use Rattle.std.proofs.lemmas.Bool.{cases_lt}
use Rattle.std.proofs.lemmas.Bool.Decides.{nat_tests}
use Rattle.view_meaning.specs.Survey.{record_count}
use Rattle.view_meaning.specs.Picture.{View, Shows, is_candidate, candidates, depth_of, nearest}
use Rattle.view_meaning.proofs.Nearest.{best, or_later, best-more}

-- j is deeper than i, or as deep and no earlier
abbrev Behind : (ℕ → ℕ) → ℕ → ℕ → Type 0
Behind depth i j = (depth i < depth j) ⊎ ((depth i ≡ depth j) × (i ≤ j))

record Wins (test : ℕ → Bool) (depth : ℕ → ℕ) (n i : ℕ) : Type 0 where
  passes : test i ≡ true
  counts : i < n
  least : (j : ℕ) → j < n → test j ≡ true → Behind depth i j

abbrev IsBest : (ℕ → Bool) → (ℕ → ℕ) → ℕ → Option ℕ → Type 0
IsBest test depth n None = (j : ℕ) → j < n → test j ≡ true → ⊥
IsBest test depth n (Some i) = Wins test depth n i

-- what holds below n, and of n, holds below suc n
with_last : {P : ℕ → Type 0} (n : ℕ) → ((j : ℕ) → j < n → P j) → P n → (j : ℕ) → j < suc n → P j
with_last {P} n below last j lt = elim (cases_lt j n) [ inl less ↦ below j less | inr least ↦ let e : n ≡ j = omega arith in subst P e last ]

more : (test : ℕ → Bool) (depth : ℕ → ℕ) (n : ℕ) (o : Option ℕ) (b : Bool) → test n ≡ b → IsBest test depth n o → IsBest test depth (suc n) (if b then or_later depth o n else o)
more test depth n None false skips h = with_last n h (λ yes. cc (skips, yes))
more test depth n None true takes h = record {
  passes = takes;
  counts = omega arith;
  least = with_last n (λ j lt yes. absurd (h j lt yes)) (λ _. inr (refl, omega arith));
}
more test depth n (Some i) false skips h = record {
  passes = h.passes;
  counts = let lt : i < n = h.counts in omega arith;
  least = with_last n h.least (λ yes. absurd (cc (skips, yes)));
}
more test depth n (Some i) true takes h = pick (nat_lt (depth n) (depth i)) refl
  where
    nearer : depth n < depth i → Wins test depth (suc n) n
    nearer less = record {
      passes = takes;
      counts = omega arith;
      least = with_last n (λ j lt yes. elim (h.least j lt yes) [ inl far ↦ inl (omega (arith, less, far)) | inr same ↦ inl (omega (arith, less, same.0)) ]) (λ _. inr (refl, omega arith));
    }

    stays : depth i ≤ depth n → Wins test depth (suc n) i
    stays least = record {
      passes = h.passes;
      counts = let lt : i < n = h.counts in omega arith;
      least = with_last n h.least (λ _. let lt : i < n = h.counts in elim (cases_lt (depth i) (depth n)) [ inl less ↦ inl less | inr same ↦ inr (omega (arith, least, same), omega arith) ]);
    }

    pick : (b : Bool) → nat_lt (depth n) (depth i) ≡ b → IsBest test depth (suc n) (if b then Some n else Some i)
    pick true is = nearer (grind (arith, nat_tests))
    pick false is = stays (grind (arith, nat_tests))

best_is : (test : ℕ → Bool) (depth : ℕ → ℕ) (n : ℕ) → IsBest test depth n (best test depth n)
best_is test depth zero = λ j lt. absurd (omega (arith, lt))
best_is test depth (suc n) = subst (λ o. IsBest test depth (suc n) o) (sym (best-more test depth n)) (more test depth n (best test depth n) (test n) refl (best_is test depth n))

as_shown : (b cs : List ℕ) (view : View) (x y : ℕ) (o : Option ℕ) → IsBest (is_candidate b cs view x y) (depth_of b view) (record_count b) o → Shows b cs view x y o
as_shown b cs view x y None h = λ j lt yes. h j lt yes
as_shown b cs view x y (Some i) h = record { counts = h.counts; falls = h.passes; least = λ j lt yes. h.least j lt yes }

-- the nearest record of a pixel is the one that shows
pub nearest_shows : (b cs : List ℕ) (view : View) (x y : ℕ) → Shows b cs view x y (nearest b cs view x y)
unfolding nearest candidates
nearest_shows b cs view x y = as_shown b cs view x y _ (best_is (is_candidate b cs view x y) (depth_of b view) (record_count b))
