-- What the rule says once the root is the only pass left.
use Rattle.std.proofs.Common.{◌≡◌, ℕ, zero, suc, ◌+◌, ◌<◌, ◌≤◌, ◌==◌, nat_lt, Bool, true, false, ◌⊎◌, inl, inr, ⊎_elim, List, [], ◌∷◌, length, slice_set, map, All, Contains, Option, None, Some, refl, sym, ap, subst, ◌∙◌, arith, if◌then◌else◌}
use Rattle.std.proofs.lemmas.Bool.Decides.{nat_tests}
use mathlib.Core.Logic.{dite}
use mathlib.Core.Option.{some}
use native.Mathlib.Decide.{ℕ_discrete}
use lib.ListN.{get_elem?}
use Rattle.atomic_table.specs.Table.{Final, Seen}
use Rattle.turn_gate.specs.declared.view.View.{View}
use Rattle.turn_gate.specs.Homes.{Homes}
use Rattle.turn_gate.specs.Meaning.{made_by}
use Rattle.turn_gate.specs.Rule.{one_if, total, most_seen, has_number, kept_times, AreOf, IsKept, IsKeptSome}
use Rattle.turn_gate.specs.Steps.{spent_view}
use Rattle.turn_gate.proofs.Beginnings.{prefix_whole}
use Rattle.turn_gate.proofs.Inside.{one_if-false}
use Rattle.turn_gate.proofs.Makers.{all_weaker}
use Rattle.turn_gate.proofs.Others.{others_joined}
use Rattle.turn_gate.proofs.Totals.{total-set, total-zero, most-set, most_below}
use Rattle.turn_gate.proofs.Views.{each_set}

-- a number among those of joined passes
pub kept_contains : {E : Type 0} (n : ℕ) (ks : List (ℕ × List E)) → 1 ≤ kept_times n ks → Contains (map (λ k. k.0) ks) n
kept_contains n [] once = absurd (omega arith)
kept_contains n (k ∷ ks) once =
    dite (ℕ_discrete k.0 n)
    (λ e. (0, omega arith, e))
    (λ other. let later = kept_contains n ks (grind (arith, nat_tests)) in (suc later.0, omega (arith, later.1), later.2))

pub all_are : {E : Type 0} (replays : List E → Type 0) (maker : E → ℕ) (log : List E) (ks : List (ℕ × List E)) → AreOf replays maker log ks → All (λ k. made_by maker k.0 log ≡ k.1) ks
all_are replays maker log [] each k d low = absurd (omega arith)
all_are replays maker log (k ∷ ks) each zero d low = each.0
all_are replays maker log (k ∷ ks) each (suc i) d low = all_are replays maker log ks each.1 i d (omega arith)

given_once : (n given has : ℕ) → n < given + 1 → has ≡ one_if (nat_lt n (given + 1)) → 1 ≤ has
given_once n given has low is = grind (arith, nat_tests)

none_else : (live : Bool) (who n kept : ℕ) → ¬ (who ≡ n) → 1 ≤ (if live then one_if (who == n) else 0) + kept → 1 ≤ kept
none_else true who n kept other has = grind (arith, nat_tests)
none_else false who n kept other has = omega arith

-- a number that the root has is its own, 0, or a joined pass's
root_number : (live : Bool) (who n kept : ℕ) → who ≡ 0 → 1 ≤ (if live then one_if (who == n) else 0) + kept → (n ≡ 0) ⊎ (1 ≤ kept)
root_number live who n kept zero_is has =
    dite (ℕ_discrete n 0) (λ e. inl e) (λ other. inr (none_else live who n kept (λ e. other (sym e ∙ zero_is)) has))

-- a place has one value
pub same_home : {S : Type 0} (slots : List (Option S)) (a b : S) (r : Option S) → get_elem? slots 0 ≡ some (Some a) → get_elem? slots 0 ≡ some r → r ≡ Some b → b ≡ a
same_home slots a b r one other is = cc (one, other, is)

pub no_home : {S : Type 0} (slots : List (Option S)) (a : S) (r : Option S) → get_elem? slots 0 ≡ some (Some a) → get_elem? slots 0 ≡ some r → r ≡ None → ⊥
no_home slots a r one other is = cc (one, other, is)

-- what a closed gate has
pub record IsClosed {S E : Type 0} (replays : List E → Type 0) (maker : E → ℕ) (is : S → List E → Type 0) (v : View E) (slots : List (Option S)) : Type 0 where
  pub value : S
  pub home : get_elem? slots 0 ≡ some (Some value)
  pub stands : is value v.seen
  pub legal : replays v.seen
  pub own : made_by maker v.who v.seen ≡ v.mine
  pub makers : All (λ e. (maker e ≡ 0) ⊎ Contains (map (λ k. k.0) v.kept) (maker e)) v.seen
  pub kept : All (λ k. made_by maker k.0 v.seen ≡ k.1) v.kept

module _ {S E : Type 0} (replays : List E → Type 0) (maker : E → ℕ) (is : S → List E → Type 0) where
  module _ (log : List E) (words : List ℕ) (homes : Homes (Option S)) (views : List (View E)) (kept : IsKept replays maker is log words homes views)
      (id : ℕ) (v : View E) (root : v.root ≡ true) (live : v.live ≡ true) (out : v.out ≡ 0) (outside : v.inside ≡ false) (at : get_elem? views id ≡ some v) where
    -- what is left of each other pass
    rest_joined : (j : ℕ) (u : View E) → ¬ (j ≡ id) → get_elem? views j ≡ some u → (u.live ≡ false) × (u.inside ≡ false) × (u.seen ≡ []) × (u.kept ≡ [])
    rest_joined j u apart there =
        let dead = others_joined replays maker is log words homes views kept id j v u root live out at apart there in
        let fit = kept.each j u there in
        let gone = fit.joined dead in
        (dead, gone.1, gone.2, (fit.worker gone.0).2)

    none_in : total (λ (u : View E). one_if u.inside) views ≡ 0
    none_in =
        let rest = total-zero (λ (u : View E). one_if u.inside) (slice_set views id spent_view)
        (each_set (λ u. one_if u.inside ≡ 0) views id spent_view refl (λ j u apart there. one_if-false u.inside (rest_joined j u apart there).1)) in
        omega (arith, rest, total-set (λ (u : View E). one_if u.inside) views id v spent_view at, one_if-false v.inside outside)

    -- the root has seen it all
    seen_all : v.seen ≡ log
    seen_all =
        let none : most_seen (slice_set views id spent_view) ≤ 0 =
        most_below (slice_set views id spent_view) 0 (each_set (λ u. length u.seen ≤ 0) views id spent_view (omega arith) (λ j u apart there. omega (arith, ap length (rest_joined j u apart there).2))) in
        let moved = most-set views id v spent_view at in
        prefix_whole v.seen log (kept.each id v at).seen (omega (arith, none, moved, kept.top none_in))

    root_has : (n : ℕ) → total (has_number n) views ≡ has_number n v
    root_has n =
        let rest : total (has_number n) (slice_set views id spent_view) ≡ 0 = total-zero (has_number n) (slice_set views id spent_view)
        (each_set (λ u. has_number n u ≡ 0) views id spent_view refl (λ j u apart there.
        let gone = rest_joined j u apart there in
        ap (λ (b : Bool). (if b then one_if (u.who == n) else 0) + kept_times n u.kept) gone.0 ∙ ap (λ (ks : List (ℕ × List E)). 0 + kept_times n ks) gone.3)) in
        omega (arith, rest, total-set (has_number n) views id v spent_view at)

    closed_makers : All (λ e. (maker e ≡ 0) ⊎ Contains (map (λ k. k.0) v.kept) (maker e)) log
    closed_makers =
        all_weaker (λ e. maker e < total (λ (u : View E). u.given) views + 1) (λ e. (maker e ≡ 0) ⊎ Contains (map (λ k. k.0) v.kept) (maker e)) log
        (λ e low.
        let has : 1 ≤ has_number (maker e) v = given_once (maker e) (total (λ (u : View E). u.given) views) (has_number (maker e) v) low (sym (root_has (maker e)) ∙ kept.numbers (maker e)) in
        ⊎_elim (λ h. inl h) (λ h. inr (kept_contains (maker e) v.kept h)) (root_number v.live v.who (maker e) (kept_times (maker e) v.kept) ((kept.each id v at).first root) has))
        kept.makers

  pub closed_is : (id : ℕ) (v : View E) (ws : List ℕ) (slots : List (Option S)) → v.root ≡ true → v.live ≡ true → v.out ≡ 0 → v.inside ≡ false
      → Final {S = Option S} {V = View E} (Seen (λ s. IsKeptSome replays maker is s.words s.homes s.views) id v) ws slots → IsClosed replays maker is v slots
  closed_is id v ws slots root live out outside end =
      let s = end.0 in
      let log = end.1.0.0 in
      let rule = end.1.0.1 in
      let at = end.1.1 in
      let none = none_in log s.words s.homes s.views rule id v root live out outside at in
      let seen = seen_all log s.words s.homes s.views rule id v root live out outside at in
      let home = rule.home none in
      let fit = rule.each id v at in
      record {
        value = home.0;
        home = end.4 0 (Some home.0) home.1;
        stands = subst (is home.0) (sym seen) home.2;
        legal = fit.legal live;
        own = fit.settled live outside;
        makers = subst (All (λ e. (maker e ≡ 0) ⊎ Contains (map (λ k. k.0) v.kept) (maker e))) (sym seen) (closed_makers log s.words s.homes s.views rule id v root live out outside at);
        kept = subst (λ l. All (λ k. made_by maker k.0 l ≡ k.1) v.kept) (sym seen) (all_are replays maker log v.kept fit.kept);
      }
