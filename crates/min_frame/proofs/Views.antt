-- Looking a view up in a list of which one view changed.
use Rattle.std.proofs.Common.{◌≡◌, ℕ, zero, suc, Bool, true, false, List, [], ◌∷◌, ◌++◌, slice_set, refl, sym, subst, ⊎_elim}
use mathlib.Core.Option.{some, some-ne-none}
use lib.ListN.{get_elem?}
use Rattle.atomic_table.proofs.Lists.{at_set, at_snoc}
use Rattle.min_frame.specs.declared.view.View.{View}
use Rattle.min_frame.specs.Rule.{IsFitting}

pub at-set_here : (views : List View) (id : ℕ) (v w : View) → get_elem? views id ≡ some v → get_elem? (slice_set views id w) id ≡ some w
at-set_here [] id v w at = absurd (some-ne-none v (sym at))
at-set_here (u ∷ us) zero v w at = refl
at-set_here (u ∷ us) (suc id) v w at = at-set_here us id v w at

pub still_live : (v : View) → v.live ≡ true → v.live ≡ false → ⊥
still_live v live dead = cc

-- every view fits after one changed
pub each_set : (views : List View) (id : ℕ) (v w : View) → get_elem? views id ≡ some v → (IsFitting v → IsFitting w)
    → ((j : ℕ) (u : View) → get_elem? views j ≡ some u → IsFitting u) → (j : ℕ) (u : View) → get_elem? (slice_set views id w) j ≡ some u → IsFitting u
each_set views id v w at fits each j u found =
    ⊎_elim (λ h. subst IsFitting h.1 (fits (each id v at))) (λ h. each j u h.1) (at_set views id j w u found)

-- and after one more came
pub each_snoc : (views : List View) (w : View) → IsFitting w
    → ((j : ℕ) (u : View) → get_elem? views j ≡ some u → IsFitting u) → (j : ℕ) (u : View) → get_elem? (views ++ w ∷ []) j ≡ some u → IsFitting u
each_snoc views w fits each j u found = ⊎_elim (λ h. each j u h) (λ h. subst IsFitting h fits) (at_snoc views w u j found)

pub not_both : (b : Bool) → b ≡ true → b ≡ false → ⊥
not_both b holds fails = cc
