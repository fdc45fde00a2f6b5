-- Taking the turn keeps the rule.
use Rattle.std.proofs.Common.{◌≡◌, ℕ, ◌==◌, true, false, List, slice_set, slice_index, Option, None, Some, refl, sym, ap, subst, ◌∙◌, arith}
use Rattle.std.proofs.lemmas.List.{length-set, get_or-set_same, get_or-set_other}
use mathlib.Core.List.{IsPrefix}
use mathlib.Core.Option.{some, none}
use lib.ListN.{get_elem?}
use prog.Atomic.{either}
use Rattle.atomic_table.specs.Table.{Me, Act, keeps, takes, Allows, step}
use Rattle.atomic_table.proofs.Lists.{exchanged, set_again}
use Rattle.turn_gate.specs.declared.view.View.{View}
use Rattle.turn_gate.specs.Homes.{Homes}
use Rattle.turn_gate.specs.Meaning.{made_by}
use Rattle.turn_gate.specs.Rule.{one_if, total, has_number, IsFitting, IsKept, IsKeptSome}
use Rattle.turn_gate.specs.Steps.{entered, Enters}
use Rattle.turn_gate.proofs.Totals.{total-set}
use Rattle.turn_gate.proofs.Inside.{one_if-false, none_inside, not_away}
use Rattle.turn_gate.proofs.Views.{each_set, not_both, set_self}

module _ {S E : Type 0} (replays : List E → Type 0) (maker : E → ℕ) (is : S → List E → Type 0) where
  enter_keeps : (log : List E) (words : List ℕ) (homes : Homes (Option S)) (views : List (View E)) (id : ℕ) (v : View E)
      → slice_index words 0 ≡ 0 → v.live ≡ true → v.inside ≡ false → IsKept replays maker is log words homes views → get_elem? views id ≡ some v
      → IsKept replays maker is log (slice_set words 0 1) (slice_set homes 0 none) (slice_set views id (entered v log))
  enter_keeps log words homes views id v free live outside kept at =
      let w : View E = entered v log in
      let none_in : total (λ (u : View E). one_if u.inside) views ≡ 0 = sym kept.turn ∙ free in
      let one_in : total (λ (u : View E). one_if u.inside) (slice_set views id w) ≡ 1 =
      omega (arith, total-set (λ (u : View E). one_if u.inside) views id v w at, none_in, one_if-false v.inside outside) in
      let fit = kept.each id v at in
      record {
        places = length-set words 0 1 ∙ kept.places;
        turn = get_or-set_same words 0 1 0 (omega (arith, kept.places)) ∙ sym one_in;
        one = omega (arith, one_in);
        count = get_or-set_other words 0 1 1 0 (λ e. omega arith) ∙ kept.count;
        home = λ none. absurd (omega (arith, none, one_in));
        away = each_set (λ u. u.away ≡ true → get_elem? (slice_set homes 0 none) 0 ≡ some (some None)) views id w
            (λ away. absurd (not_away replays maker log v fit outside away))
            (λ j u apart there away. absurd (not_away replays maker log u (kept.each j u there) (none_inside views j u none_in there) away));
        legal = λ none. absurd (omega (arith, none, one_in));
        top = λ none. absurd (omega (arith, none, one_in));
        root = omega (arith, total-set (λ (u : View E). one_if u.root) views id v w at, kept.root);
        others = omega (arith, total-set (λ (u : View E). one_if u.live) views id v w at, total-set (λ (u : View E). u.out) views id v w at, kept.others);
        numbers = λ n. let given : total (λ (u : View E). u.given) (slice_set views id w) ≡ total (λ (u : View E). u.given) views = omega (arith, total-set (λ (u : View E). u.given) views id v w at) in
            rw given (omega (arith, total-set (has_number n) views id v w at, kept.numbers n));
        makers = let given : total (λ (u : View E). u.given) (slice_set views id w) ≡ total (λ (u : View E). u.given) views = omega (arith, total-set (λ (u : View E). u.given) views id v w at) in
            rw given kept.makers;
        each = each_set (IsFitting replays maker log) views id w
            (record {
              seen = fit.seen;
              met = fit.met;
              legal = fit.legal;
              own = fit.own;
              settled = λ l no. absurd (not_both true refl no);
              turn = λ h. refl;
              away = λ h. refl;
              kept = fit.kept;
              joined = λ dead. absurd (not_both v.live live dead);
              first = fit.first;
              worker = fit.worker;
            })
            (λ j u apart there. kept.each j u there);
      }

  pub enter_allows : (entries : S → List E) (based : S → Type 0) (legal : List E → Type 0) (slots id : ℕ) (me : Me (Option S) (View E))
      → ((value : S) (log : List E) → is value log → (entries value ≡ log) × based value) → ((log : List E) → replays log → legal log) → me.0.live ≡ true → me.0.inside ≡ false
      → Allows (λ s. IsKeptSome replays maker is s.words s.homes s.views) slots id me 0 (λ n. either (n == 0) 1 n) (Enters entries maker based legal (step slots 0 0 1 none) me)
  enter_allows entries based legal slots id me tells allows live outside = λ s kept homes at small.
      let log = kept.0 in
      let rule = kept.1 in
      let found = slice_index s.words 0 in
      let After : ℕ → Type 0 = λ m. (w : View E) × (a : Act (Option S)) × Rattle.atomic_table.specs.Table.Valid s.homes me.1 a
      × IsKeptSome replays maker is (slice_set s.words 0 m) (Rattle.atomic_table.specs.Table.homes_after s.homes me.1 a) (slice_set s.views id w)
      × Enters entries maker based legal (step slots 0 0 1 none) me found (w, Rattle.atomic_table.specs.Table.carried_after me.1 a) in
      exchanged found 0 1 After
      (λ free.
      let home = rule.home (sym rule.turn ∙ free) in
      let value = home.0 in
      let told = tells value log home.2 in
      let fit = rule.each id me.0 at in (
        entered me.0 log,
        takes 0 (Some value),
        home.1,
        (log, enter_keeps log s.words s.homes s.views id me.0 free live outside rule at),
        record {
          won = λ h. (value, ap (entered me.0) (sym told.0), refl, subst (IsPrefix me.0.seen) (sym told.0) fit.seen, ap (made_by maker me.0.who) told.0 ∙ fit.own live, told.1, allows me.0.seen (fit.legal live), fit.settled live outside);
          lost = λ no. absurd (no free);
        },
      ))
      (λ taken.
      let same_words : slice_set s.words 0 found ≡ s.words = set_self s.words 0 (omega (arith, rule.places)) in
      let same_views : slice_set s.views id me.0 ≡ s.views = set_again s.views id me.0 at in (
        me.0,
        keeps,
        tt,
        (log, rw (same_words, same_views) rule),
        record { won = λ h. absurd (taken h); lost = λ no. refl },
      ))
