-- The least plot on a pixel, when one view changes.
use Rattle.std.proofs.Common.{◌≡◌, ℕ, zero, suc, ◌-◌, ◌^◌, ◌≤◌, min, List, [], ◌∷◌, ◌++◌, slice_set, refl, sym, ap, arith}
use Rattle.std.proofs.lemmas.Bool.Decides.{nat_tests}
use mathlib.Core.Option.{some, some-injective, some-ne-none}
use lib.ListN.{get_elem?}
use Rattle.min_frame.specs.declared.view.View.{View}
use Rattle.min_frame.specs.Least.{least}
use Rattle.min_frame.specs.Rule.{all_plots}
use Rattle.min_frame.proofs.Views.{at-set_here}

pub least-le : (ps : List (ℕ × ℕ)) (x : ℕ) → least ps x ≤ 2 ^ 64 - 1
least-le [] x = omega arith
least-le (p ∷ ps) x = let later = least-le ps x in grind (arith, nat_tests)

pub least-append : (ps qs : List (ℕ × ℕ)) (x : ℕ) → least (ps ++ qs) x ≡ min (least ps x) (least qs x)
least-append [] qs x = let le = least-le qs x in omega arith
least-append (p ∷ ps) qs x = let later = least-append ps qs x in grind (arith, nat_tests)

pub least-set : (views : List View) (id : ℕ) (v w : View) (x : ℕ) → get_elem? views id ≡ some v
    → min (least (all_plots (slice_set views id w)) x) (least v.plots x) ≡ min (least (all_plots views) x) (least w.plots x)
least-set [] id v w x at = absurd (some-ne-none v (sym at))
least-set (u ∷ us) zero v w x at =
    let same : least u.plots x ≡ least v.plots x = ap (λ (t : View). least t.plots x) (some-injective u v at) in
    let a = least-append w.plots (all_plots us) x in
    let b = least-append u.plots (all_plots us) x in
    omega arith
least-set (u ∷ us) (suc id) v w x at =
    let later = least-set us id v w x at in
    let a = least-append u.plots (all_plots (slice_set us id w)) x in
    let b = least-append u.plots (all_plots us) x in
    omega arith

-- one more view
pub least-snoc : (views : List View) (w : View) (x : ℕ) → least (all_plots (views ++ w ∷ [])) x ≡ min (least (all_plots views) x) (least w.plots x)
least-snoc [] w x = let a = least-append w.plots [] x in let b = least-le w.plots x in omega arith
least-snoc (u ∷ us) w x =
    let later = least-snoc us w x in
    let a = least-append u.plots (all_plots (us ++ w ∷ [])) x in
    let b = least-append u.plots (all_plots us) x in
    omega arith

pub least_below : (views : List View) (id : ℕ) (v : View) (x : ℕ) → get_elem? views id ≡ some v → least (all_plots views) x ≤ least v.plots x
least_below [] id v x at = absurd (some-ne-none v (sym at))
least_below (u ∷ us) zero v x at =
    let same : least u.plots x ≡ least v.plots x = ap (λ (t : View). least t.plots x) (some-injective u v at) in
    let a = least-append u.plots (all_plots us) x in
    omega arith
least_below (u ∷ us) (suc id) v x at =
    let later = least_below us id v x at in
    let a = least-append u.plots (all_plots us) x in
    omega arith

-- views that plotted nothing
pub all_plots-nil : (views : List View) → ((id : ℕ) (v : View) → get_elem? views id ≡ some v → v.plots ≡ []) → all_plots views ≡ []
all_plots-nil [] each = refl
all_plots-nil (u ∷ us) each = let here = each 0 u refl in let later = all_plots-nil us (λ id v at. each (suc id) v at) in cc

-- a view changed, and its plots stay
pub least-same_plots : (views : List View) (id : ℕ) (v w : View) (x : ℕ) → get_elem? views id ≡ some v → w.plots ≡ v.plots
    → least (all_plots (slice_set views id w)) x ≡ least (all_plots views) x
least-same_plots views id v w x at same =
    let e : least w.plots x ≡ least v.plots x = ap (λ (ps : List (ℕ × ℕ)). least ps x) same in
    let moved = least-set views id v w x at in
    let a = least_below views id v x at in
    let b = least_below (slice_set views id w) id w x (at-set_here views id v w at) in
    omega arith
