-- A sum over all views, when one view changes.
use Rattle.std.proofs.Common.{◌≡◌, ℕ, zero, suc, ◌+◌, ◌≤◌, List, [], ◌∷◌, ◌++◌, slice_set, refl, sym, ap, arith}
use mathlib.Core.Option.{some, some-injective, some-ne-none}
use lib.ListN.{get_elem?}
use Rattle.min_frame.specs.declared.view.View.{View}
use Rattle.min_frame.specs.Rule.{total}

pub total-set : (f : View → ℕ) (views : List View) (id : ℕ) (v w : View) → get_elem? views id ≡ some v → total f (slice_set views id w) + f v ≡ total f views + f w
total-set f [] id v w at = absurd (some-ne-none v (sym at))
total-set f (u ∷ us) zero v w at = let same : f u ≡ f v = ap f (some-injective u v at) in omega arith
total-set f (u ∷ us) (suc id) v w at = let later = total-set f us id v w at in omega arith

pub total-append : (f : View → ℕ) (views ws : List View) → total f (views ++ ws) ≡ total f views + total f ws
total-append f [] ws = omega arith
total-append f (u ∷ us) ws = let later = total-append f us ws in omega arith

pub total_has : (f : View → ℕ) (views : List View) (id : ℕ) (v : View) → get_elem? views id ≡ some v → f v ≤ total f views
total_has f [] id v at = absurd (some-ne-none v (sym at))
total_has f (u ∷ us) zero v at = let same : f u ≡ f v = ap f (some-injective u v at) in omega arith
total_has f (u ∷ us) (suc id) v at = let later = total_has f us id v at in omega arith

-- a sum of zeros
pub total-zero : (f : View → ℕ) (views : List View) → ((id : ℕ) (v : View) → get_elem? views id ≡ some v → f v ≡ 0) → total f views ≡ 0
total-zero f [] each = omega arith
total-zero f (u ∷ us) each = let here = each 0 u refl in let later = total-zero f us (λ id v at. each (suc id) v at) in omega arith

-- one view changed and one more came
pub total_split : (f : View → ℕ) (views : List View) (id : ℕ) (v l r : View) → get_elem? views id ≡ some v → total f (slice_set views id l ++ r ∷ []) + f v ≡ total f views + (f l + f r)
total_split f views id v l r at = omega (arith, total-append f (slice_set views id l) (r ∷ []), total-set f views id v l at)
