-- Looking a view up in a list of which one view changed.
use Rattle.std.proofs.Common.{◌≡◌, ℕ, zero, suc, ◌<◌, Bool, true, false, List, [], ◌∷◌, ◌++◌, length, slice_set, slice_index, refl, sym, subst, ⊎_elim, arith}
use mathlib.Core.Option.{some, some-ne-none}
use lib.ListN.{get_elem?}
use Rattle.atomic_table.proofs.Lists.{at_set, at_snoc}
use Rattle.turn_gate.specs.declared.view.View.{View}

pub at-set_here : {E : Type 0} (views : List (View E)) (id : ℕ) (v w : View E) → get_elem? views id ≡ some v → get_elem? (slice_set views id w) id ≡ some w
at-set_here [] id v w at = absurd (some-ne-none v (sym at))
at-set_here (u ∷ us) zero v w at = refl
at-set_here (u ∷ us) (suc id) v w at = at-set_here us id v w at

pub not_both : (b : Bool) → b ≡ true → b ≡ false → ⊥
not_both b holds fails = cc

-- what holds of each view after one changed
pub each_set : {E : Type 0} (P : View E → Type 0) (views : List (View E)) (id : ℕ) (w : View E) → P w
    → ((j : ℕ) (u : View E) → ¬ (j ≡ id) → get_elem? views j ≡ some u → P u) → (j : ℕ) (u : View E) → get_elem? (slice_set views id w) j ≡ some u → P u
each_set P views id w here each j u found =
    ⊎_elim (λ h. subst P h.1 here) (λ h. each j u h.0 h.1) (at_set views id j w u found)

-- and after one more came
pub each_snoc : {E : Type 0} (P : View E → Type 0) (views : List (View E)) (w : View E) → P w
    → ((j : ℕ) (u : View E) → get_elem? views j ≡ some u → P u) → (j : ℕ) (u : View E) → get_elem? (views ++ w ∷ []) j ≡ some u → P u
each_snoc P views w here each j u found = ⊎_elim (λ h. each j u h) (λ h. subst P h here) (at_snoc views w u j found)

-- a word that is written as it was
pub set_self : (words : List ℕ) (i : ℕ) → i < length words → slice_set words i (slice_index words i) ≡ words
set_self [] i low = refl
set_self (n ∷ ns) zero low = refl
set_self (n ∷ ns) (suc i) low = let later = set_self ns i (omega arith) in cc
