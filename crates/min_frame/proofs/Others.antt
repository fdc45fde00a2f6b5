-- The views beside the root's.
use Rattle.std.proofs.Common.{◌≡◌, ℕ, ◌≤◌, Bool, true, false, List, slice_set, refl, arith}
use mathlib.Core.Option.{some}
use lib.ListN.{get_elem?}
use Rattle.min_frame.specs.declared.view.Size.{Size}
use Rattle.min_frame.specs.declared.view.View.{View}
use Rattle.min_frame.specs.Rule.{one_if, total, IsKept, IsFitting, spent_view}
use Rattle.min_frame.proofs.Totals.{total-set, total_has, total-zero}
use Rattle.min_frame.proofs.Views.{each_set}

-- the list of views without the one at id
abbrev pub without : List View → ℕ → List View
without views id = slice_set views id spent_view

pub one_if-zero : (b : Bool) → one_if b ≤ 0 → b ≡ false
one_if-zero true h = absurd (omega arith)
one_if-zero false h = refl

pub one_if-true : (b : Bool) → b ≡ true → one_if b ≡ 1
one_if-true b holds = rw holds refl

pub spent_fits : IsFitting spent_view
spent_fits = record { joined = λ h. (refl, refl, refl, refl); worker = λ h. refl }

pub rest_fits : (size : Size) (words : List ℕ) (views : List View) (id : ℕ) (v : View) → IsKept size words views → get_elem? views id ≡ some v
    → (j : ℕ) (u : View) → get_elem? (without views id) j ≡ some u → IsFitting u
rest_fits size words views id v kept at = each_set views id v spent_view at (λ f. spent_fits) kept.each

-- each other view has nothing out
pub rest_out : (size : Size) (words : List ℕ) (views : List View) (id : ℕ) (v : View) → v.root ≡ true → IsKept size words views → get_elem? views id ≡ some v
    → total (λ u. u.out) (without views id) ≡ 0
rest_out size words views id v root kept at =
    let none : total (λ u. one_if u.root) (without views id) ≡ 0 = omega (arith, total-set (λ u. one_if u.root) views id v spent_view at, kept.root, one_if-true v.root root) in
    total-zero (λ u. u.out) (without views id) (λ j u there.
    (rest_fits size words views id v kept at j u there).worker (one_if-zero u.root (omega (arith, none, total_has (λ t. one_if t.root) (without views id) j u there))))
