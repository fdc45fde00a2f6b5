-- Steps that change no view.
use Rattle.std.proofs.Common.{◌≡◌, ℕ, true, List, slice_set, slice_index, Option, refl, ◌∙◌, arith}
use Rattle.std.proofs.lemmas.List.{length-set, get_or-set_other}
use mathlib.Core.Option.{none}
use Rattle.atomic_table.specs.Table.{Me, Step, keeps, Allows, step}
use Rattle.atomic_table.proofs.Lists.{set_again}
use Rattle.turn_gate.specs.declared.view.View.{View}
use Rattle.turn_gate.specs.Homes.{Homes}
use Rattle.turn_gate.specs.Rule.{IsKept, IsKeptSome}
use Rattle.turn_gate.specs.Steps.{Looks, Stays}
use Rattle.turn_gate.proofs.Views.{set_self}

module _ {S E : Type 0} (replays : List E → Type 0) (maker : E → ℕ) (is : S → List E → Type 0) where
  pub look_allows : (told : List E → Type 0) (slots id : ℕ) (me : Me (Option S) (View E)) → ((log : List E) → replays log → told log) → me.0.live ≡ true
      → Allows (λ s. IsKeptSome replays maker is s.words s.homes s.views) slots id me 0 (λ n. n) (Looks told maker (step slots 0 0 0 none) me)
  look_allows told slots id me tells live = λ s kept homes at small.
      let rule = kept.1 in
      let same_words : slice_set s.words 0 (slice_index s.words 0) ≡ s.words = set_self s.words 0 (omega (arith, rule.places)) in
      let same_views : slice_set s.views id me.0 ≡ s.views = set_again s.views id me.0 at in
      let fit = rule.each id me.0 at in (
        me.0,
        keeps,
        tt,
        (kept.0, rw (same_words, same_views) rule),
        (refl, tells me.0.seen (fit.legal live), fit.settled live, fit.met),
      )

  park_keeps : (log : List E) (words : List ℕ) (homes : Homes (Option S)) (views : List (View E)) (n : ℕ) → IsKept replays maker is log words homes views
      → IsKept replays maker is log (slice_set words 2 n) homes views
  park_keeps log words homes views n kept =
      record {
        places = length-set words 2 n ∙ kept.places;
        turn = get_or-set_other words 2 0 n 0 (λ e. omega arith) ∙ kept.turn;
        one = kept.one;
        count = get_or-set_other words 2 1 n 0 (λ e. omega arith) ∙ kept.count;
        home = kept.home;
        away = kept.away;
        legal = kept.legal;
        top = kept.top;
        root = kept.root;
        others = kept.others;
        numbers = kept.numbers;
        makers = kept.makers;
        each = kept.each;
      }

  pub stay_allows : (slots id : ℕ) (me : Me (Option S) (View E)) (f : ℕ → ℕ) (about : Step (Option S))
      → Allows (λ s. IsKeptSome replays maker is s.words s.homes s.views) slots id me 2 f (Stays about me)
  stay_allows slots id me f about = λ s kept homes at small.
      let same_views : slice_set s.views id me.0 ≡ s.views = set_again s.views id me.0 at in (
        me.0,
        keeps,
        tt,
        (kept.0, rw same_views (park_keeps kept.0 s.words s.homes s.views (f (slice_index s.words 2)) kept.1)),
        refl,
      )
