-- The views beside the root's.
use Rattle.std.proofs.Common.{◌≡◌, ℕ, ◌≤◌, true, false, List, [], Option, slice_set, refl, arith}
use mathlib.Core.Option.{some}
use lib.ListN.{get_elem?}
use Rattle.turn_gate.specs.declared.view.View.{View}
use Rattle.turn_gate.specs.Homes.{Homes}
use Rattle.turn_gate.specs.Rule.{one_if, total, IsFitting, IsKept}
use Rattle.turn_gate.specs.Steps.{spent_view}
use Rattle.turn_gate.proofs.Beginnings.{prefix_nil}
use Rattle.turn_gate.proofs.Inside.{one_if-zero, one_if-true}
use Rattle.turn_gate.proofs.Totals.{total-set, total_two, total-zero}
use Rattle.turn_gate.proofs.Views.{each_set, not_both}

-- what was joined fits with every history
pub spent_fits : {E : Type 0} (replays : List E → Type 0) (maker : E → ℕ) (log : List E) → IsFitting replays maker log spent_view
spent_fits replays maker log =
    record {
      seen = prefix_nil log;
      met = prefix_nil [];
      legal = λ h. absurd (not_both false h refl);
      own = λ h. absurd (not_both false h refl);
      settled = λ h no. absurd (not_both false h refl);
      turn = λ h. absurd (not_both false h refl);
      away = λ h. absurd (not_both false h refl);
      kept = tt;
      joined = λ h. (refl, refl, refl);
      first = λ h. refl;
      worker = λ h. (refl, refl, refl);
    }

module _ {S E : Type 0} (replays : List E → Type 0) (maker : E → ℕ) (is : S → List E → Type 0) (log : List E) (words : List ℕ) (homes : Homes (Option S)) (views : List (View E)) (kept : IsKept replays maker is log words homes views) where
  -- no other view is the root
  pub others_workers : (id j : ℕ) (v u : View E) → v.root ≡ true → get_elem? views id ≡ some v → ¬ (j ≡ id) → get_elem? views j ≡ some u → u.root ≡ false
  others_workers id j v u root at apart there =
      one_if-zero u.root (omega (arith, kept.root, one_if-true v.root root, total_two (λ (t : View E). one_if t.root) views id j v u at there apart))

  -- a sum over all views, of what only the root has
  pub total_root : (f : View E → ℕ) (id : ℕ) (v : View E) → f spent_view ≡ 0 → ((u : View E) → (u.out ≡ 0) × (u.given ≡ 0) × (u.kept ≡ []) → f u ≡ 0) → v.root ≡ true → get_elem? views id ≡ some v
      → total f views ≡ f v
  total_root f id v none each root at =
      let rest : total f (slice_set views id spent_view) ≡ 0 =
      total-zero f (slice_set views id spent_view) (each_set (λ u. f u ≡ 0) views id spent_view none (λ j u apart there. each u ((kept.each j u there).worker (others_workers id j v u root at apart there)))) in
      omega (arith, rest, total-set f views id v spent_view at, none)

  pub total_out : (id : ℕ) (v : View E) → v.root ≡ true → get_elem? views id ≡ some v → total (λ u. u.out) views ≡ v.out
  total_out id v root at = total_root (λ u. u.out) id v refl (λ u h. h.0) root at

  pub total_given : (id : ℕ) (v : View E) → v.root ≡ true → get_elem? views id ≡ some v → total (λ u. u.given) views ≡ v.given
  total_given id v root at = total_root (λ u. u.given) id v refl (λ u h. h.1) root at

  -- a root that another live view stands beside has passes out
  pub root_out : (id j : ℕ) (v u : View E) → v.root ≡ true → v.live ≡ true → u.live ≡ true → get_elem? views id ≡ some v → ¬ (j ≡ id) → get_elem? views j ≡ some u → 1 ≤ v.out
  root_out id j v u root live alive at apart there =
      omega (arith, kept.others, total_out id v root at, one_if-true v.live live, one_if-true u.live alive, total_two (λ (t : View E). one_if t.live) views id j v u at there apart)

  -- beside a root without passes out all are joined
  pub others_joined : (id j : ℕ) (v u : View E) → v.root ≡ true → v.live ≡ true → v.out ≡ 0 → get_elem? views id ≡ some v → ¬ (j ≡ id) → get_elem? views j ≡ some u → u.live ≡ false
  others_joined id j v u root live out at apart there =
      one_if-zero u.live (omega (arith, kept.others, total_out id v root at, out, one_if-true v.live live, total_two (λ (t : View E). one_if t.live) views id j v u at there apart))
