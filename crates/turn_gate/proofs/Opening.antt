-- A new gate keeps the rule: its root has the turn, and the slot is empty.
use Rattle.std.proofs.Common.{◌≡◌, ℕ, zero, suc, ◌+◌, ◌==◌, nat_lt, true, List, [], ◌∷◌, None, refl, sym, subst, arith}
use Rattle.std.proofs.lemmas.Bool.Decides.{nat_tests}
use mathlib.Core.Option.{some, some-injective, some-ne-none}
use lib.ListN.{get_elem?}
use Rattle.turn_gate.specs.declared.view.View.{View}
use Rattle.turn_gate.specs.Rule.{one_if, IsFitting, IsKeptSome}
use Rattle.turn_gate.specs.Steps.{root_view}
use Rattle.turn_gate.proofs.Beginnings.{prefix_nil}
use Rattle.turn_gate.proofs.Views.{not_both}

root_number : (n : ℕ) → one_if (0 == n) + 0 + 0 ≡ one_if (nat_lt n (0 + 0 + 1))
root_number n = grind (arith, nat_tests)

module _ {S E : Type 0} (replays : List E → Type 0) (maker : E → ℕ) (is : S → List E → Type 0) where
  root_fits : replays [] → IsFitting replays maker [] root_view
  root_fits legal =
      record {
        seen = prefix_nil [];
        met = prefix_nil [];
        legal = λ h. legal;
        own = λ h. refl;
        settled = λ h no. refl;
        turn = λ h. refl;
        away = λ h. refl;
        kept = tt;
        joined = λ h. absurd (not_both true refl h);
        first = λ h. refl;
        worker = λ h. absurd (not_both true refl h);
      }

  only_root : (P : View E → Type 0) → P root_view → (id : ℕ) (v : View E) → get_elem? (root_view ∷ []) id ≡ some v → P v
  only_root P here zero v at = subst P (some-injective root_view v at) here
  only_root P here (suc id) v at = absurd (some-ne-none v (sym at))

  pub opening_kept : replays [] → IsKeptSome replays maker is (1 ∷ 0 ∷ 0 ∷ []) (some None ∷ []) (root_view ∷ [])
  opening_kept legal = (
    [],
    record {
      places = refl;
      turn = refl;
      one = omega arith;
      count = refl;
      home = λ none. absurd (omega arith);
      away = only_root (λ v. v.away ≡ true → get_elem? (some None ∷ []) 0 ≡ some (some None)) (λ h. refl);
      legal = λ none. legal;
      top = λ none. refl;
      root = refl;
      others = refl;
      numbers = λ n. root_number n;
      makers = λ k d low. absurd (omega arith);
      each = only_root (IsFitting replays maker []) (root_fits legal);
    },
  )
