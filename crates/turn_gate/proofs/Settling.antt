-- Giving the turn back keeps the rule.
use Rattle.std.proofs.Common.{◌≡◌, ℕ, ◌<◌, ◌≤◌, max, true, false, List, ◌∷◌, length, slice_set, Option, Some, refl, sym, ap, subst, ◌∙◌, arith}
use Rattle.std.proofs.lemmas.List.{length-set, get_or-set_same, get_or-set_other}
use mathlib.Core.List.{IsPrefix}
use mathlib.Core.Option.{some, none}
use lib.ListN.{get_elem?}
use Rattle.atomic_table.specs.Table.{gives, Allows, step}
use Rattle.atomic_table.proofs.Lists.{set_here}
use Rattle.turn_gate.specs.declared.view.View.{View}
use Rattle.turn_gate.specs.Homes.{Homes}
use Rattle.turn_gate.specs.Meaning.{made_by}
use Rattle.turn_gate.specs.Rule.{one_if, total, most_seen, has_number, IsFitting, IsKept, IsKeptSome}
use Rattle.turn_gate.specs.Steps.{settled, Settles}
use Rattle.turn_gate.proofs.Beginnings.{prefix_self, prefix_trans, prefix_length}
use Rattle.turn_gate.proofs.Totals.{total-set, most-set, most_has, most_below}
use Rattle.turn_gate.proofs.Inside.{one_if-true, one_inside, none_inside, not_away}
use Rattle.turn_gate.proofs.Views.{at-set_here, each_set, not_both}

most_step : (after before old all : ℕ) → max after old ≡ max before all → before ≤ all → old ≤ all → all ≤ after → after ≡ all
most_step after before old all e a b c = omega arith

module _ {S E : Type 0} (replays : List E → Type 0) (maker : E → ℕ) (is : S → List E → Type 0) where
  -- the view that has seen most is the one that gave the turn back
  settle_most : (log : List E) (words : List ℕ) (homes : Homes (Option S)) (views : List (View E)) (id : ℕ) (v : View E)
      → v.noted ≡ log → IsKept replays maker is log words homes views → get_elem? views id ≡ some v → most_seen (slice_set views id (settled v)) ≡ length log
  settle_most log words homes views id v noted kept at =
      let w : View E = settled v in
      let long : length w.seen ≡ length log = ap length noted in
      let below : most_seen views ≤ length log = most_below views (length log) (λ j u there. prefix_length u.seen log (kept.each j u there).seen) in
      let old : length v.seen ≤ length log = prefix_length v.seen log (kept.each id v at).seen in
      let has : length w.seen ≤ most_seen (slice_set views id w) = most_has (slice_set views id w) id w (at-set_here views id v w at) in
      let moved = most-set views id v w at in
      most_step (most_seen (slice_set views id w)) (most_seen views) (length v.seen) (length log) (omega arith) below old (omega arith)

  settle_keeps : (log : List E) (words : List ℕ) (homes homes' : Homes (Option S)) (views : List (View E)) (id : ℕ) (v : View E) (value : S)
      → v.live ≡ true → v.inside ≡ true → v.away ≡ false → is value v.noted → replays v.noted → get_elem? homes' 0 ≡ some (some (Some value)) → IsKept replays maker is log words homes views → get_elem? views id ≡ some v
      → IsKept replays maker is log (slice_set words 0 0) homes' (slice_set views id (settled v))
  settle_keeps log words homes homes' views id v value live inside back stands legal home kept at =
      let w : View E = settled v in
      let fit = kept.each id v at in
      let noted : v.noted ≡ log = fit.turn inside in
      let legal_log : replays log = subst replays noted legal in
      let one_in : total (λ (u : View E). one_if u.inside) views ≡ 1 = one_inside views id v kept.one inside at in
      let none_in : total (λ (u : View E). one_if u.inside) (slice_set views id w) ≡ 0 =
      omega (arith, total-set (λ (u : View E). one_if u.inside) views id v w at, one_in, one_if-true v.inside inside) in
      let given : total (λ (u : View E). u.given) (slice_set views id w) ≡ total (λ (u : View E). u.given) views = omega (arith, total-set (λ (u : View E). u.given) views id v w at) in
      let fits : (j : ℕ) (u : View E) → get_elem? (slice_set views id w) j ≡ some u → IsFitting replays maker log u =
      each_set (IsFitting replays maker log) views id w
      (record {
        seen = subst (λ l. IsPrefix l log) (sym noted) (prefix_self log);
        met = prefix_trans v.met v.seen v.noted fit.met (subst (IsPrefix v.seen) (sym noted) fit.seen);
        legal = λ h. legal;
        own = fit.own;
        settled = λ h outside. ap (made_by maker v.who) noted ∙ fit.own live;
        turn = λ h. absurd (not_both false h refl);
        away = λ h. absurd (not_both v.away h back);
        kept = fit.kept;
        joined = λ dead. absurd (not_both v.live live dead);
        first = fit.first;
        worker = fit.worker;
      })
      (λ j u apart there. kept.each j u there) in
      record {
        places = length-set words 0 0 ∙ kept.places;
        turn = get_or-set_same words 0 0 0 (omega (arith, kept.places)) ∙ sym none_in;
        one = omega (arith, none_in);
        count = get_or-set_other words 0 1 0 0 (λ e. omega arith) ∙ kept.count;
        home = λ none. (value, home, subst (is value) noted stands);
        away = λ j u there out. absurd (not_away replays maker log u (fits j u there) (none_inside (slice_set views id w) j u none_in there) out);
        legal = λ none. legal_log;
        top = λ none. settle_most log words homes views id v noted kept at;
        root = omega (arith, total-set (λ (u : View E). one_if u.root) views id v w at, kept.root);
        others = omega (arith, total-set (λ (u : View E). one_if u.live) views id v w at, total-set (λ (u : View E). u.out) views id v w at, kept.others);
        numbers = λ n. rw given (omega (arith, total-set (has_number n) views id v w at, kept.numbers n));
        makers = rw given kept.makers;
        each = fits;
      }

  pub settle_allows : (slots id : ℕ) (v : View E) (value : S) (carried : List (ℕ × Option S)) → 0 < slots
      → v.live ≡ true → v.inside ≡ true → v.away ≡ false → is value v.noted → replays v.noted
      → Allows (λ s. IsKeptSome replays maker is s.words s.homes s.views) slots id (v, (0, Some value) ∷ carried) 0 (λ n. 0) (Settles maker (step slots 0 0 0 none) (v, (0, Some value) ∷ carried))
  settle_allows slots id v value carried some_slot live inside back stands legal = λ s kept homes at small.
      let rule = kept.1 in
      let fit = rule.each id v at in (
        settled v,
        gives,
        tt,
        (kept.0, settle_keeps kept.0 s.words s.homes (slice_set s.homes 0 (some (Some value))) s.views id v value live inside back stands legal (set_here s.homes 0 (some (Some value)) (omega arith)) rule at),
        (refl, refl, ap (made_by maker v.who) (fit.turn inside) ∙ fit.own live),
      )
