-- Sums over all views, and the most that a view has seen, when one view changes.
use Rattle.std.proofs.Common.{◌≡◌, ℕ, zero, suc, ◌+◌, ◌≤◌, max, List, [], ◌∷◌, ◌++◌, length, slice_set, refl, sym, ap, arith}
use mathlib.Core.Option.{some, some-injective, some-ne-none}
use lib.ListN.{get_elem?}
use Rattle.turn_gate.specs.declared.view.View.{View}
use Rattle.turn_gate.specs.Rule.{total, most_seen}

pub total-set : {E : Type 0} (f : View E → ℕ) (views : List (View E)) (id : ℕ) (v w : View E) → get_elem? views id ≡ some v → total f (slice_set views id w) + f v ≡ total f views + f w
total-set f [] id v w at = absurd (some-ne-none v (sym at))
total-set f (u ∷ us) zero v w at = let same : f u ≡ f v = ap f (some-injective u v at) in omega arith
total-set f (u ∷ us) (suc id) v w at = let later = total-set f us id v w at in omega arith

pub total-append : {E : Type 0} (f : View E → ℕ) (views ws : List (View E)) → total f (views ++ ws) ≡ total f views + total f ws
total-append f [] ws = omega arith
total-append f (u ∷ us) ws = let later = total-append f us ws in omega arith

pub total_has : {E : Type 0} (f : View E → ℕ) (views : List (View E)) (id : ℕ) (v : View E) → get_elem? views id ≡ some v → f v ≤ total f views
total_has f [] id v at = absurd (some-ne-none v (sym at))
total_has f (u ∷ us) zero v at = let same : f u ≡ f v = ap f (some-injective u v at) in omega arith
total_has f (u ∷ us) (suc id) v at = let later = total_has f us id v at in omega arith

-- two views at different places
pub total_two : {E : Type 0} (f : View E → ℕ) (views : List (View E)) (id other : ℕ) (v u : View E) → get_elem? views id ≡ some v → get_elem? views other ≡ some u → ¬ (other ≡ id) → f v + f u ≤ total f views
total_two f [] id other v u at there apart = absurd (some-ne-none v (sym at))
total_two f (x ∷ xs) zero zero v u at there apart = absurd (apart refl)
total_two f (x ∷ xs) zero (suc j) v u at there apart =
    let same : f x ≡ f v = ap f (some-injective x v at) in let later = total_has f xs j u there in omega arith
total_two f (x ∷ xs) (suc i) zero v u at there apart =
    let same : f x ≡ f u = ap f (some-injective x u there) in let later = total_has f xs i v at in omega arith
total_two f (x ∷ xs) (suc i) (suc j) v u at there apart =
    let later = total_two f xs i j v u at there (λ e. apart (ap suc e)) in omega arith

-- a sum of zeros
pub total-zero : {E : Type 0} (f : View E → ℕ) (views : List (View E)) → ((id : ℕ) (v : View E) → get_elem? views id ≡ some v → f v ≡ 0) → total f views ≡ 0
total-zero f [] each = omega arith
total-zero f (u ∷ us) each = let here = each 0 u refl in let later = total-zero f us (λ id v at. each (suc id) v at) in omega arith

-- one view changed and one more came
pub total_split : {E : Type 0} (f : View E → ℕ) (views : List (View E)) (id : ℕ) (v l r : View E) → get_elem? views id ≡ some v → total f (slice_set views id l ++ r ∷ []) + f v ≡ total f views + (f l + f r)
total_split f views id v l r at = omega (arith, total-append f (slice_set views id l) (r ∷ []), total-set f views id v l at)

-- one view changed, and then another
pub total_joined : {E : Type 0} (f : View E → ℕ) (views : List (View E)) (id other : ℕ) (v w both spent : View E) → get_elem? views id ≡ some v → get_elem? (slice_set views id both) other ≡ some w
    → total f (slice_set (slice_set views id both) other spent) + (f v + f w) ≡ total f views + (f both + f spent)
total_joined f views id other v w both spent at there = omega (arith, total-set f views id v both at, total-set f (slice_set views id both) other w spent there)

pub most-set : {E : Type 0} (views : List (View E)) (id : ℕ) (v w : View E) → get_elem? views id ≡ some v → max (most_seen (slice_set views id w)) (length v.seen) ≡ max (most_seen views) (length w.seen)
most-set [] id v w at = absurd (some-ne-none v (sym at))
most-set (u ∷ us) zero v w at = let same : length u.seen ≡ length v.seen = ap (λ (t : View _). length t.seen) (some-injective u v at) in omega arith
most-set (u ∷ us) (suc id) v w at = let later = most-set us id v w at in omega arith

pub most-snoc : {E : Type 0} (views : List (View E)) (w : View E) → most_seen (views ++ w ∷ []) ≡ max (most_seen views) (length w.seen)
most-snoc [] w = omega arith
most-snoc (u ∷ us) w = let later = most-snoc us w in omega arith

pub most_has : {E : Type 0} (views : List (View E)) (id : ℕ) (v : View E) → get_elem? views id ≡ some v → length v.seen ≤ most_seen views
most_has [] id v at = absurd (some-ne-none v (sym at))
most_has (u ∷ us) zero v at = let same : length u.seen ≡ length v.seen = ap (λ (t : View _). length t.seen) (some-injective u v at) in omega arith
most_has (u ∷ us) (suc id) v at = let later = most_has us id v at in omega arith

pub most_below : {E : Type 0} (views : List (View E)) (n : ℕ) → ((id : ℕ) (v : View E) → get_elem? views id ≡ some v → length v.seen ≤ n) → most_seen views ≤ n
most_below [] n each = omega arith
most_below (u ∷ us) n each = let here = each 0 u refl in let later = most_below us n (λ id v at. each (suc id) v at) in omega arith
