-- Joining a pass keeps the rule.
use Rattle.std.proofs.Common.{◌≡◌, ℕ, ◌+◌, ◌≤◌, ◌==◌, max, Bool, true, false, List, [], ◌∷◌, length, slice_set, Option, None, refl, sym, ap, ◌∙◌, arith, if◌then◌else◌}
use mathlib.Core.List.{IsPrefix}
use mathlib.Core.Option.{some}
use lib.ListN.{get_elem?}
use Rattle.atomic_table.specs.Table.{Joins}
use Rattle.atomic_table.proofs.Lists.{set_else}
use Rattle.turn_gate.specs.declared.view.View.{View}
use Rattle.turn_gate.specs.Homes.{Homes}
use Rattle.turn_gate.specs.Meaning.{longer}
use Rattle.turn_gate.specs.Rule.{one_if, total, most_seen, has_number, kept_times, IsFitting, IsKept, IsKeptSome}
use Rattle.turn_gate.specs.Steps.{merged, spent_view}
use Rattle.turn_gate.proofs.Beginnings.{longer_has, longer-length, longer_first, shorter_longer}
use Rattle.turn_gate.proofs.Inside.{one_if-false, one_if-true}
use Rattle.turn_gate.proofs.Makers.{made_by_between, are_of_snoc, kept_times-snoc}
use Rattle.turn_gate.proofs.Others.{spent_fits, root_out}
use Rattle.turn_gate.proofs.Totals.{total_joined, most-set, most_has}
use Rattle.turn_gate.proofs.Views.{at-set_here, each_set, not_both}

-- all: the most seen before, after the first change and after the second; v, w, both: what the two views have seen, and then the first
most_step : (all all' all'' v w both : ℕ) → max all' v ≡ max all both → max all'' w ≡ max all' 0 → both ≡ max v w → both ≤ all' → both ≤ all'' → v ≤ all → w ≤ all → all'' ≡ all
most_step all all' all'' v w both one two is a b c d = omega arith

number_step : (all all'' v w kept : ℕ) → all'' + (v + w) ≡ all + (v + kept + 0) → w ≡ kept → all'' ≡ all
number_step all all'' v w kept e is = omega arith

module _ {S E : Type 0} (replays : List E → Type 0) (maker : E → ℕ) (is : S → List E → Type 0) where
  module _ (log : List E) (words : List ℕ) (homes : Homes (Option S)) (views : List (View E)) (kept : IsKept replays maker is log words homes views) where
    merge_most : (id other : ℕ) (v w : View E) → get_elem? views id ≡ some v → ¬ (other ≡ id) → get_elem? views other ≡ some w → get_elem? (slice_set views id (merged v w)) other ≡ some w
        → most_seen (slice_set (slice_set views id (merged v w)) other spent_view) ≡ most_seen views
    merge_most id other v w at apart beside there =
        let both : View E = merged v w in
        let first : List (View E) = slice_set views id both in
        let second : List (View E) = slice_set first other spent_view in
        let here : get_elem? first id ≡ some both = at-set_here views id v both at in
        let still : get_elem? second id ≡ some both = set_else first other id spent_view (λ e. apart (sym e)) ∙ here in
        most_step (most_seen views) (most_seen first) (most_seen second) (length v.seen) (length w.seen) (length both.seen)
        (most-set views id v both at)
        (most-set first other w spent_view there)
        (longer-length v.seen w.seen)
        (most_has first id both here)
        (most_has second id both still)
        (most_has views id v at)
        (most_has views other w beside)

    merge_number : (n id other : ℕ) (v w : View E) → w.live ≡ true → w.kept ≡ [] → get_elem? views id ≡ some v → get_elem? (slice_set views id (merged v w)) other ≡ some w
        → total (has_number n) (slice_set (slice_set views id (merged v w)) other spent_view) ≡ total (has_number n) views
    merge_number n id other v w alive none at there =
        let both : View E = merged v w in
        let has : has_number n w ≡ kept_times n ((w.who, w.mine) ∷ []) =
        ap (λ (b : Bool). (if b then one_if (w.who == n) else 0) + kept_times n w.kept) alive ∙ ap (λ (ks : List (ℕ × List E)). one_if (w.who == n) + kept_times n ks) none in
        let more = kept_times-snoc n v.kept w.who w.mine in
        let moved = total_joined (has_number n) views id other v w both spent_view at there in
        number_step (total (has_number n) views) (total (has_number n) (slice_set (slice_set views id both) other spent_view)) (has_number n v) (has_number n w) (kept_times n ((w.who, w.mine) ∷ []))
        (moved ∙ omega (arith, more)) has

    both_fits : (id other : ℕ) (v w : View E) → v.root ≡ true → v.live ≡ true → v.inside ≡ false → w.live ≡ true → get_elem? views id ≡ some v → get_elem? views other ≡ some w → IsFitting replays maker log (merged v w)
    both_fits id other v w root live outside alive at beside =
        let fit = kept.each id v at in
        let fit' = kept.each other w beside in
        record {
          seen = longer_has (λ l. IsPrefix l log) v.seen w.seen fit.seen fit'.seen;
          met = shorter_longer v.seen w.seen log fit.seen fit'.seen;
          legal = λ h. longer_has replays v.seen w.seen (fit.legal live) (fit'.legal alive);
          own = fit.own;
          settled = λ h no. made_by_between maker v.who v.seen (longer v.seen w.seen) log v.mine (longer_first v.seen w.seen log fit.seen fit'.seen)
              (longer_has (λ l. IsPrefix l log) v.seen w.seen fit.seen fit'.seen) (fit.settled live outside) (fit.own live);
          turn = fit.turn;
          away = fit.away;
          kept = are_of_snoc replays maker log v.kept w.who w.mine (fit'.own alive) fit.kept;
          joined = λ h. absurd (not_both v.live live h);
          first = fit.first;
          worker = λ h. absurd (not_both v.root root h);
        }

  merge_keeps : (log : List E) (words : List ℕ) (homes : Homes (Option S)) (views : List (View E)) (id other : ℕ) (v w : View E)
      → v.root ≡ true → v.live ≡ true → v.inside ≡ false → w.root ≡ false → w.live ≡ true → w.inside ≡ false → IsKept replays maker is log words homes views
      → get_elem? views id ≡ some v → ¬ (other ≡ id) → get_elem? (slice_set views id (merged v w)) other ≡ some w
      → IsKept replays maker is log words homes (slice_set (slice_set views id (merged v w)) other spent_view)
  merge_keeps log words homes views id other v w root live outside worker alive out kept at apart there =
      let both : View E = merged v w in
      let beside : get_elem? views other ≡ some w = sym (set_else views id other both apart) ∙ there in
      let fit = kept.each id v at in
      let works = (kept.each other w beside).worker worker in
      let some_out : 1 ≤ v.out = root_out replays maker is log words homes views kept id other v w root live alive at apart beside in
      let given : total (λ (u : View E). u.given) (slice_set (slice_set views id both) other spent_view) ≡ total (λ (u : View E). u.given) views =
      omega (arith, total_joined (λ (u : View E). u.given) views id other v w both spent_view at there, works.1) in
      let same : total (λ (u : View E). one_if u.inside) (slice_set (slice_set views id both) other spent_view) ≡ total (λ (u : View E). one_if u.inside) views =
      omega (arith, total_joined (λ (u : View E). one_if u.inside) views id other v w both spent_view at there, one_if-false w.inside out) in
      record {
        places = kept.places;
        turn = kept.turn ∙ sym same;
        one = omega (arith, same, kept.one);
        count = kept.count;
        home = λ h. kept.home (sym same ∙ h);
        away = each_set (λ u. u.away ≡ true → get_elem? homes 0 ≡ some (some None)) (slice_set views id both) other spent_view (λ h. absurd (not_both false h refl))
            (λ j u no found. each_set (λ t. t.away ≡ true → get_elem? homes 0 ≡ some (some None)) views id both (kept.away id v at) (λ i t no' beside'. kept.away i t beside') j u found);
        legal = λ h. kept.legal (sym same ∙ h);
        top = λ h. merge_most log words homes views kept id other v w at apart beside there ∙ kept.top (sym same ∙ h);
        root = omega (arith, total_joined (λ (u : View E). one_if u.root) views id other v w both spent_view at there, kept.root, one_if-false w.root worker);
        others = omega (
          arith,
          total_joined (λ (u : View E). one_if u.live) views id other v w both spent_view at there,
          total_joined (λ (u : View E). u.out) views id other v w both spent_view at there,
          kept.others,
          one_if-true w.live alive,
          some_out,
          works.0,
        );
        numbers = λ n. rw given (merge_number log words homes views kept n id other v w alive works.2 at there ∙ kept.numbers n);
        makers = rw given kept.makers;
        each = each_set (IsFitting replays maker log) (slice_set views id both) other spent_view (spent_fits replays maker log)
            (λ j u no found. each_set (IsFitting replays maker log) views id both (both_fits log words homes views kept id other v w root live outside alive at beside) (λ i t no' beside'. kept.each i t beside') j u found);
      }

  pub merge_joins : (id other : ℕ) (v w : View E) → v.root ≡ true → v.live ≡ true → v.inside ≡ false → w.root ≡ false → w.live ≡ true → w.inside ≡ false
      → Joins {S = Option S} {V = View E} (λ s. IsKeptSome replays maker is s.words s.homes s.views) id v other w (merged v w) spent_view
  merge_joins id other v w root live outside worker alive out =
      λ s kept at apart there. (kept.0, merge_keeps kept.0 s.words s.homes s.views id other v w root live outside worker alive out kept.1 at apart there)
