-- Which view has the turn.
use Rattle.std.proofs.Common.{◌≡◌, ℕ, ◌≤◌, Bool, true, false, List, None, Some, refl, arith, if◌then◌else◌}
use mathlib.Core.Option.{some}
use lib.ListN.{get_elem?}
use Rattle.turn_gate.specs.declared.view.View.{View}
use Rattle.turn_gate.specs.Rule.{one_if, total, IsFitting}
use Rattle.turn_gate.proofs.Totals.{total_has, total_two}
use Rattle.turn_gate.proofs.Views.{not_both}

pub one_if-zero : (b : Bool) → one_if b ≤ 0 → b ≡ false
one_if-zero true h = absurd (omega arith)
one_if-zero false h = refl

pub one_if-true : (b : Bool) → b ≡ true → one_if b ≡ 1
one_if-true b holds = rw holds refl

pub one_if-false : (b : Bool) → b ≡ false → one_if b ≡ 0
one_if-false b fails = rw fails refl

-- while no view is in a turn
pub none_inside : {E : Type 0} (views : List (View E)) (j : ℕ) (u : View E) → total (λ v. one_if v.inside) views ≡ 0 → get_elem? views j ≡ some u → u.inside ≡ false
none_inside views j u none there = one_if-zero u.inside (omega (arith, none, total_has (λ v. one_if v.inside) views j u there))

-- while this view is in a turn
pub others_outside : {E : Type 0} (views : List (View E)) (id j : ℕ) (v u : View E) → total (λ v. one_if v.inside) views ≤ 1 → v.inside ≡ true → get_elem? views id ≡ some v → ¬ (j ≡ id) → get_elem? views j ≡ some u → u.inside ≡ false
others_outside views id j v u one inside at apart there =
    one_if-zero u.inside (omega (arith, one, one_if-true v.inside inside, total_two (λ v. one_if v.inside) views id j v u at there apart))

-- a view outside a turn has not lent the value
pub not_away : {E : Type 0} (replays : List E → Type 0) (maker : E → ℕ) (log : List E) (u : View E) → IsFitting replays maker log u → u.inside ≡ false → u.away ≡ true → ⊥
not_away replays maker log u fits outside away = not_both u.inside (fits.away away) outside

-- the one view in a turn is all that the sum counts
pub one_inside : {E : Type 0} (views : List (View E)) (id : ℕ) (v : View E) → total (λ v. one_if v.inside) views ≤ 1 → v.inside ≡ true → get_elem? views id ≡ some v → total (λ v. one_if v.inside) views ≡ 1
one_inside views id v one inside at = omega (arith, one, one_if-true v.inside inside, total_has (λ v. one_if v.inside) views id v at)

-- a pass that shows no turn
pub outside_of : {E : Type 0} (b : Bool) (noted : List E) → (if b then Some noted else None) ≡ None → b ≡ false
outside_of true noted is = absurd cc
outside_of false noted is = refl

-- a pass that shows a turn
pub inside_of : {E : Type 0} (b : Bool) (noted log : List E) → (if b then Some noted else None) ≡ Some log → (b ≡ true) × (noted ≡ log)
inside_of true noted log is = (refl, cc)
inside_of false noted log is = absurd cc
