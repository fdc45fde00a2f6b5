-- Bringing the slot home empty, and taking it again, keep the rule.
use Rattle.std.proofs.Common.{◌≡◌, ℕ, ◌<◌, Bool, true, false, List, ◌∷◌, slice_set, slice_index, Option, None, Some, refl, sym, ap, ◌∙◌, arith}
use mathlib.Core.Option.{some, none}
use lib.ListN.{get_elem?}
use Rattle.atomic_table.specs.Table.{Me, takes, gives, Allows, step}
use Rattle.atomic_table.proofs.Lists.{set_here}
use Rattle.turn_gate.specs.declared.view.View.{View}
use Rattle.turn_gate.specs.Homes.{Homes}
use Rattle.turn_gate.specs.Rule.{one_if, total, has_number, IsFitting, IsKept, IsKeptSome}
use Rattle.turn_gate.specs.Steps.{lent, Empties, Fetches}
use Rattle.turn_gate.proofs.Totals.{total-set}
use Rattle.turn_gate.proofs.Inside.{one_inside, others_outside, not_away}
use Rattle.turn_gate.proofs.Views.{each_set, not_both, set_self}

some_one : {A : Type 0} (a b : A) → Some a ≡ Some b → a ≡ b
some_one a b is = cc

-- a slot that was taken last has one value
pub same_slot : {A : Type 0} (k : ℕ) (a b : A) (found : Option A) (xs ys all : List (ℕ × Option A)) → all ≡ (k, Some a) ∷ xs → all ≡ (k, found) ∷ ys → found ≡ Some b → b ≡ a
same_slot {A} k a b found xs ys all one other is =
    let pairs : (k, found) ≡ (k, Some a) = cc (one, other) in
    let same : found ≡ Some a = ap (λ (p : ℕ × Option A). p.1) pairs in
    some_one b a (sym is ∙ same)

module _ {S E : Type 0} (replays : List E → Type 0) (maker : E → ℕ) (is : S → List E → Type 0) where
  -- the value was handed out or is back, while the view is in a turn
  lend_keeps : (log : List E) (words : List ℕ) (homes homes' : Homes (Option S)) (views : List (View E)) (id : ℕ) (v : View E) (away : Bool)
      → v.live ≡ true → v.inside ≡ true → (away ≡ true → get_elem? homes' 0 ≡ some (some None)) → IsKept replays maker is log words homes views → get_elem? views id ≡ some v
      → IsKept replays maker is log words homes' (slice_set views id (lent v away))
  lend_keeps log words homes homes' views id v away live inside empty kept at =
      let w : View E = lent v away in
      let same : total (λ (u : View E). one_if u.inside) (slice_set views id w) ≡ total (λ (u : View E). one_if u.inside) views =
      omega (arith, total-set (λ (u : View E). one_if u.inside) views id v w at) in
      let one_in : total (λ (u : View E). one_if u.inside) views ≡ 1 = one_inside views id v kept.one inside at in
      let given : total (λ (u : View E). u.given) (slice_set views id w) ≡ total (λ (u : View E). u.given) views = omega (arith, total-set (λ (u : View E). u.given) views id v w at) in
      let fit = kept.each id v at in
      record {
        places = kept.places;
        turn = kept.turn ∙ sym same;
        one = omega (arith, same, one_in);
        count = kept.count;
        home = λ none. absurd (omega (arith, none, same, one_in));
        away = each_set (λ u. u.away ≡ true → get_elem? homes' 0 ≡ some (some None)) views id w
            empty
            (λ j u apart there out. absurd (not_away replays maker log u (kept.each j u there) (others_outside views id j v u kept.one inside at apart there) out));
        legal = λ none. absurd (omega (arith, none, same, one_in));
        top = λ none. absurd (omega (arith, none, same, one_in));
        root = omega (arith, total-set (λ (u : View E). one_if u.root) views id v w at, kept.root);
        others = omega (arith, total-set (λ (u : View E). one_if u.live) views id v w at, total-set (λ (u : View E). u.out) views id v w at, kept.others);
        numbers = λ n. rw given (omega (arith, total-set (has_number n) views id v w at, kept.numbers n));
        makers = rw given kept.makers;
        each = each_set (IsFitting replays maker log) views id w
            (record {
              seen = fit.seen;
              met = fit.met;
              legal = fit.legal;
              own = fit.own;
              settled = fit.settled;
              turn = fit.turn;
              away = λ h. inside;
              kept = fit.kept;
              joined = λ dead. absurd (not_both v.live live dead);
              first = fit.first;
              worker = fit.worker;
            })
            (λ j u apart there. kept.each j u there);
      }

  pub empty_allows : (slots id : ℕ) (v : View E) (carried : List (ℕ × Option S)) → 0 < slots → v.live ≡ true → v.inside ≡ true
      → Allows (λ s. IsKeptSome replays maker is s.words s.homes s.views) slots id (v, (0, None) ∷ carried) 0 (λ n. n) (Empties (step slots 0 0 0 none) (v, (0, None) ∷ carried))
  empty_allows slots id v carried some_slot live inside = λ s kept homes at small.
      let rule = kept.1 in
      let same_words : slice_set s.words 0 (slice_index s.words 0) ≡ s.words = set_self s.words 0 (omega (arith, rule.places)) in (
        lent v true,
        gives,
        tt,
        (kept.0, rw same_words (lend_keeps kept.0 s.words s.homes (slice_set s.homes 0 (some None)) s.views id v true live inside (λ h. set_here s.homes 0 (some None) (omega arith)) rule at)),
        (refl, refl),
      )

  pub fetch_allows : (slots id : ℕ) (me : Me (Option S) (View E)) → me.0.live ≡ true → me.0.inside ≡ true → me.0.away ≡ true
      → Allows (λ s. IsKeptSome replays maker is s.words s.homes s.views) slots id me 0 (λ n. n) (Fetches (step slots 0 0 0 none) me)
  fetch_allows slots id me live inside out = λ s kept homes at small.
      let rule = kept.1 in
      let same_words : slice_set s.words 0 (slice_index s.words 0) ≡ s.words = set_self s.words 0 (omega (arith, rule.places)) in (
        lent me.0 false,
        takes 0 None,
        rule.away id me.0 at out,
        (kept.0, rw same_words (lend_keeps kept.0 s.words s.homes (slice_set s.homes 0 none) s.views id me.0 false live inside (λ h. absurd (not_both false h refl)) rule at)),
        (refl, refl),
      )
