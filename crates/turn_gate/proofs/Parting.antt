-- Splitting a pass off keeps the rule.
use Rattle.std.proofs.Common.{◌≡◌, ℕ, ◌+◌, ◌<◌, ◌≤◌, ◌==◌, max, nat_lt, true, false, List, [], ◌∷◌, ◌++◌, length, slice_set, All, Option, None, refl, sym, ap, subst, ◌∙◌, arith}
use Rattle.std.proofs.lemmas.Bool.Decides.{nat_tests}
use mathlib.Core.Option.{some}
use lib.ListN.{get_elem?}
use Rattle.atomic_table.specs.Table.{Splits}
use Rattle.turn_gate.specs.declared.view.View.{View}
use Rattle.turn_gate.specs.Homes.{Homes}
use Rattle.turn_gate.specs.Meaning.{made_by}
use Rattle.turn_gate.specs.Rule.{one_if, total, most_seen, has_number, IsFitting, IsKept, IsKeptSome}
use Rattle.turn_gate.specs.Steps.{parted, worker_view}
use Rattle.turn_gate.proofs.Beginnings.{prefix_nil, prefix_whole}
use Rattle.turn_gate.proofs.Makers.{made_by_none, made_by_prefix, all_weaker}
use Rattle.turn_gate.proofs.Others.{total_given}
use Rattle.turn_gate.proofs.Totals.{total_split, most-set, most-snoc, most_has}
use Rattle.turn_gate.proofs.Views.{each_set, each_snoc, not_both}

-- one more number is given
part_number : (n given : ℕ) → one_if (nat_lt n (given + 1)) + one_if (given + 1 == n) ≡ one_if (nat_lt n (given + 1 + 1))
part_number n given = grind (arith, nat_tests)

part_most : (after before both seen : ℕ) → max after seen ≡ max before seen → both ≡ max after seen → seen ≤ before → both ≡ before
part_most after before both seen e is le = omega arith

module _ {S E : Type 0} (replays : List E → Type 0) (maker : E → ℕ) (is : S → List E → Type 0) where
  part_keeps : (log : List E) (words : List ℕ) (homes : Homes (Option S)) (views : List (View E)) (id : ℕ) (v : View E)
      → v.root ≡ true → v.live ≡ true → IsKept replays maker is log words homes views → get_elem? views id ≡ some v
      → IsKept replays maker is log words homes (slice_set views id (parted v) ++ worker_view (v.given + 1) v.seen ∷ [])
  part_keeps log words homes views id v root live kept at =
      let l : View E = parted v in
      let r : View E = worker_view (v.given + 1) v.seen in
      let fit = kept.each id v at in
      let given : total (λ (u : View E). u.given) views ≡ v.given = total_given replays maker is log words homes views kept id v root at in
      let more : total (λ (u : View E). u.given) (slice_set views id l ++ r ∷ []) ≡ v.given + 1 = omega (arith, given, total_split (λ (u : View E). u.given) views id v l r at) in
      let same : total (λ (u : View E). one_if u.inside) (slice_set views id l ++ r ∷ []) ≡ total (λ (u : View E). one_if u.inside) views =
      omega (arith, total_split (λ (u : View E). one_if u.inside) views id v l r at) in
      let makers : All (λ e. maker e < v.given + 1) log = subst (λ n. All (λ e. maker e < n + 1) log) given kept.makers in
      let none : made_by maker (v.given + 1) log ≡ [] = made_by_none maker (v.given + 1) log makers in
      record {
        places = kept.places;
        turn = kept.turn ∙ sym same;
        one = omega (arith, same, kept.one);
        count = kept.count;
        home = λ h. kept.home (sym same ∙ h);
        away = each_snoc (λ u. u.away ≡ true → get_elem? homes 0 ≡ some (some None)) (slice_set views id l) r (λ h. absurd (not_both false h refl))
            (each_set (λ u. u.away ≡ true → get_elem? homes 0 ≡ some (some None)) views id l (kept.away id v at) (λ j u apart there. kept.away j u there));
        legal = λ h. kept.legal (sym same ∙ h);
        top = λ h. part_most (most_seen (slice_set views id l)) (most_seen views) (most_seen (slice_set views id l ++ r ∷ [])) (length v.seen) (most-set views id v l at) (most-snoc (slice_set views id l) r) (most_has views id v at)
            ∙ kept.top (sym same ∙ h);
        root = omega (arith, total_split (λ (u : View E). one_if u.root) views id v l r at, kept.root);
        others = omega (arith, total_split (λ (u : View E). one_if u.live) views id v l r at, total_split (λ (u : View E). u.out) views id v l r at, kept.others);
        numbers = λ n. let before : total (has_number n) views ≡ one_if (nat_lt n (v.given + 1)) = subst (λ g. total (has_number n) views ≡ one_if (nat_lt n (g + 1))) given (kept.numbers n) in
            rw more (omega (arith, total_split (has_number n) views id v l r at, before, part_number n v.given));
        makers = rw more (all_weaker (λ e. maker e < v.given + 1) (λ e. maker e < v.given + 1 + 1) log (λ e low. omega arith) makers);
        each = each_snoc (IsFitting replays maker log) (slice_set views id l) r
            (record {
              seen = fit.seen;
              met = prefix_nil v.seen;
              legal = λ h. fit.legal live;
              own = λ h. none;
              settled = λ h no. prefix_whole (made_by maker (v.given + 1) v.seen) (made_by maker (v.given + 1) log) (made_by_prefix maker (v.given + 1) v.seen log fit.seen) (omega (arith, ap length none)) ∙ none;
              turn = λ h. absurd (not_both false h refl);
              away = λ h. absurd (not_both false h refl);
              kept = tt;
              joined = λ h. absurd (not_both true refl h);
              first = λ h. absurd (not_both false h refl);
              worker = λ h. (refl, refl, refl);
            })
            (each_set (IsFitting replays maker log) views id l
            (record {
              seen = fit.seen;
              met = fit.met;
              legal = fit.legal;
              own = fit.own;
              settled = fit.settled;
              turn = fit.turn;
              away = fit.away;
              kept = fit.kept;
              joined = λ h. absurd (not_both v.live live h);
              first = fit.first;
              worker = λ h. absurd (not_both v.root root h);
            })
            (λ j u apart there. kept.each j u there));
      }

  pub part_splits : (id : ℕ) (v : View E) → v.root ≡ true → v.live ≡ true
      → Splits {S = Option S} {V = View E} (λ s. IsKeptSome replays maker is s.words s.homes s.views) id v (parted v) (worker_view (v.given + 1) v.seen)
  part_splits id v root live = λ s kept at. (kept.0, part_keeps kept.0 s.words s.homes s.views id v root live kept.1 at)
