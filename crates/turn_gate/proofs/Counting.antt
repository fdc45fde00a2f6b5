-- Counting an entry keeps the rule.
use Rattle.std.proofs.Common.{◌≡◌, ℕ, ◌+◌, ◌%◌, ◌^◌, ◌<◌, ◌≤◌, ◌==◌, nat_lt, Bool, true, false, List, [], ◌∷◌, ◌++◌, length, slice_set, slice_index, Option, None, refl, sym, ap, subst, ◌∙◌, arith, mod-eq_of_lt, length-append, if◌then◌else◌}
use Rattle.std.proofs.lemmas.Bool.Decides.{nat_tests}
use Rattle.std.proofs.lemmas.List.{length-set, get_or-set_same, get_or-set_other}
use mathlib.Core.Option.{some, none}
use lib.ListN.{get_elem?}
use Rattle.atomic_table.specs.Table.{Me, keeps, Allows, step}
use Rattle.turn_gate.specs.declared.view.View.{View}
use Rattle.turn_gate.specs.Homes.{Homes}
use Rattle.turn_gate.specs.Rule.{one_if, total, has_number, kept_times, IsFitting, IsKept, IsKeptSome}
use Rattle.turn_gate.specs.Steps.{counted, Counts}
use Rattle.turn_gate.proofs.Beginnings.{prefix_append, prefix_trans}
use Rattle.turn_gate.proofs.Makers.{made_by_own, made_by_other, all_snoc, are_of_more}
use Rattle.turn_gate.proofs.Totals.{total-set, total_has, total_two}
use Rattle.turn_gate.proofs.Inside.{one_inside, others_outside}
use Rattle.turn_gate.proofs.Views.{each_set, not_both}

-- a live view has its own number
has_own : (live : Bool) (who n kept has : ℕ) → live ≡ true → who ≡ n → (if live then one_if (who == n) else 0) + kept ≡ has → has ≡ kept + 1
has_own live who n kept has is own e = subst (λ (b : Bool). (if b then one_if (who == n) else 0) + kept ≡ has → has ≡ kept + 1) (sym is) (λ h. grind (arith, nat_tests)) e

at_most_one : (b : Bool) → one_if b ≤ 1
at_most_one true = omega arith
at_most_one false = omega arith

below_of_one : (n m : ℕ) → 1 ≤ one_if (nat_lt n m) → n < m
below_of_one n m one = grind (arith, nat_tests)

module _ {S E : Type 0} (replays : List E → Type 0) (maker : E → ℕ) (is : S → List E → Type 0) where
  module _ (log : List E) (words : List ℕ) (homes : Homes (Option S)) (views : List (View E)) (kept : IsKept replays maker is log words homes views) where
    -- a number is had at most once
    pub number_once : (n : ℕ) → total (has_number n) views ≤ 1
    number_once n = omega (arith, kept.numbers n, at_most_one (nat_lt n (total (λ (v : View E). v.given) views + 1)))

    -- a live view's number is one that was given, and is no joined pass's
    pub number_own : (id : ℕ) (v : View E) → v.live ≡ true → get_elem? views id ≡ some v → (v.who < total (λ (u : View E). u.given) views + 1) × (kept_times v.who v.kept ≡ 0)
    number_own id v live at =
        let has = has_own v.live v.who v.who (kept_times v.who v.kept) (has_number v.who v) live refl refl in
        let within = total_has (has_number v.who) views id v at in
        let once = number_once v.who in
        let one : 1 ≤ one_if (nat_lt v.who (total (λ (u : View E). u.given) views + 1)) = omega (arith, kept.numbers v.who) in
        (below_of_one v.who (total (λ (u : View E). u.given) views + 1) one, omega arith)

    -- and no other view has it
    pub number_apart : (id j : ℕ) (v u : View E) → v.live ≡ true → get_elem? views id ≡ some v → ¬ (j ≡ id) → get_elem? views j ≡ some u → has_number v.who u ≡ 0
    number_apart id j v u live at apart there =
        let has = has_own v.live v.who v.who (kept_times v.who v.kept) (has_number v.who v) live refl refl in
        let both = total_two (has_number v.who) views id j v u at there apart in
        let once = number_once v.who in
        omega arith

  -- a view without that number, once the history has one more entry
  fits_more : (log : List E) (e : E) (u : View E) → has_number (maker e) u ≡ 0 → u.inside ≡ false → IsFitting replays maker log u → IsFitting replays maker (log ++ e ∷ []) u
  fits_more log e u without outside fit =
      record {
        seen = prefix_trans u.seen log (log ++ e ∷ []) fit.seen (prefix_append log (e ∷ []));
        met = fit.met;
        legal = fit.legal;
        own = λ live. made_by_other maker u.who log e (λ own. let has = has_own u.live u.who (maker e) (kept_times (maker e) u.kept) (has_number (maker e) u) live (sym own) refl in omega arith) ∙ fit.own live;
        settled = fit.settled;
        turn = λ inside. absurd (not_both u.inside inside outside);
        away = fit.away;
        kept = are_of_more replays maker log u.kept e (omega arith) fit.kept;
        joined = fit.joined;
        first = fit.first;
        worker = fit.worker;
      }

  count_keeps : (log : List E) (words : List ℕ) (homes : Homes (Option S)) (views : List (View E)) (id : ℕ) (v : View E) (e : E)
      → v.live ≡ true → v.inside ≡ true → maker e ≡ v.who → IsKept replays maker is log words homes views → get_elem? views id ≡ some v
      → IsKept replays maker is (log ++ e ∷ []) (slice_set words 1 (slice_index words 1 + 1)) homes (slice_set views id (counted v (e ∷ [])))
  count_keeps log words homes views id v e live inside own kept at =
      let w : View E = counted v (e ∷ []) in
      let fit = kept.each id v at in
      let one_in : total (λ (u : View E). one_if u.inside) views ≡ 1 = one_inside views id v kept.one inside at in
      let same : total (λ (u : View E). one_if u.inside) (slice_set views id w) ≡ total (λ (u : View E). one_if u.inside) views =
      omega (arith, total-set (λ (u : View E). one_if u.inside) views id v w at) in
      let given : total (λ (u : View E). u.given) (slice_set views id w) ≡ total (λ (u : View E). u.given) views = omega (arith, total-set (λ (u : View E). u.given) views id v w at) in
      let number = number_own log words homes views kept id v live at in
      record {
        places = length-set words 1 (slice_index words 1 + 1) ∙ kept.places;
        turn = get_or-set_other words 1 0 (slice_index words 1 + 1) 0 (λ h. omega arith) ∙ kept.turn ∙ sym same;
        one = omega (arith, same, one_in);
        count = get_or-set_same words 1 (slice_index words 1 + 1) 0 (omega (arith, kept.places)) ∙ omega (arith, kept.count, length-append log (e ∷ []));
        home = λ none. absurd (omega (arith, none, same, one_in));
        away = each_set (λ u. u.away ≡ true → get_elem? homes 0 ≡ some (some None)) views id w
            (kept.away id v at)
            (λ j u apart there. kept.away j u there);
        legal = λ none. absurd (omega (arith, none, same, one_in));
        top = λ none. absurd (omega (arith, none, same, one_in));
        root = omega (arith, total-set (λ (u : View E). one_if u.root) views id v w at, kept.root);
        others = omega (arith, total-set (λ (u : View E). one_if u.live) views id v w at, total-set (λ (u : View E). u.out) views id v w at, kept.others);
        numbers = λ n. rw given (omega (arith, total-set (has_number n) views id v w at, kept.numbers n));
        makers = rw given (all_snoc (λ x. maker x < total (λ (u : View E). u.given) views + 1) log e kept.makers (rw own number.0));
        each = each_set (IsFitting replays maker (log ++ e ∷ [])) views id w
            (record {
              seen = prefix_trans v.seen log (log ++ e ∷ []) fit.seen (prefix_append log (e ∷ []));
              met = fit.met;
              legal = fit.legal;
              own = λ h. made_by_own maker v.who log e own ∙ ap (λ l. l ++ e ∷ []) (fit.own live);
              settled = λ h outside. absurd (not_both v.inside inside outside);
              turn = λ h. ap (λ l. l ++ e ∷ []) (fit.turn inside);
              away = fit.away;
              kept = are_of_more replays maker log v.kept e (subst (λ n. kept_times n v.kept ≡ 0) (sym own) number.1) fit.kept;
              joined = λ dead. absurd (not_both v.live live dead);
              first = fit.first;
              worker = fit.worker;
            })
            (λ j u apart there. fits_more log e u (subst (λ n. has_number n u ≡ 0) (sym own) (number_apart log words homes views kept id j v u live at apart there))
            (others_outside views id j v u kept.one inside at apart there) (kept.each j u there));
      }

  pub count_allows : (slots id : ℕ) (me : Me (Option S) (View E)) (more : List E) (e : E)
      → more ≡ e ∷ [] → maker e ≡ me.0.who → length me.0.noted + 1 < 2 ^ 64 → me.0.live ≡ true → me.0.inside ≡ true
      → Allows (λ s. IsKeptSome replays maker is s.words s.homes s.views) slots id me 1 (λ n. (n + 1) % 2 ^ 64) (Counts more (step slots 1 1 0 none) me)
  count_allows slots id me more e one own small live inside = λ s kept homes at fits.
      let rule = kept.1 in
      let noted = (rule.each id me.0 at).turn inside in
      let long : length me.0.noted ≡ length kept.0 = ap length noted in
      let whole : (slice_index s.words 1 + 1) % 2 ^ 64 ≡ slice_index s.words 1 + 1 = mod-eq_of_lt (omega (arith, rule.count)) in (
        counted me.0 (e ∷ []),
        keeps,
        tt,
        (kept.0 ++ e ∷ [], rw whole (count_keeps kept.0 s.words s.homes s.views id me.0 e live inside own rule at)),
        (ap (counted me.0) (sym one), refl),
      )
