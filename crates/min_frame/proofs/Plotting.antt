-- A plot keeps the rule.
use Rattle.std.proofs.Common.{◌≡◌, ℕ, ◌-◌, ◌^◌, ◌<◌, ◌≤◌, min, true, List, [], ◌∷◌, length, slice_set, slice_index, refl, sym, ◌∙◌, arith}
use Rattle.std.proofs.lemmas.Bool.Decides.{nat_tests}
use Rattle.std.proofs.lemmas.List.{length-set, get_or-set_same, get_or-set_other}
use mathlib.Core.Option.{some, none}
use lib.ListN.{get_elem?}
use Rattle.atomic_table.specs.Table.{Me, Allows, step, keeps}
use Rattle.min_frame.specs.declared.view.Size.{Size}
use Rattle.min_frame.specs.declared.view.View.{View}
use Rattle.min_frame.specs.Claimed.{times}
use Rattle.min_frame.specs.Least.{least}
use Rattle.min_frame.specs.Rule.{one_if, all_plots, IsKept, Plots, plotted}
use Rattle.min_frame.proofs.Leasts.{least-le, least-append, least-set, least_below}
use Rattle.min_frame.proofs.Totals.{total-set}
use Rattle.min_frame.proofs.Views.{at-set_here, each_set, still_live}

min_step : (a b l k : ℕ) → min a l ≡ min b (min l k) → a ≤ min l k → b ≤ l → a ≡ min b k
min_step a b l k moved small below = omega arith

-- the least value of one pixel, once the pair of pixel and value is plotted
pub least-plotted : (views : List View) (id pixel value x : ℕ) (v : View) → get_elem? views id ≡ some v
    → least (all_plots (slice_set views id (plotted v pixel value))) x ≡ min (least (all_plots views) x) (least ((pixel, value) ∷ []) x)
least-plotted views id pixel value x v at =
    let w : View = plotted v pixel value in
    let more = least-append v.plots ((pixel, value) ∷ []) x in
    min_step (least (all_plots (slice_set views id w)) x) (least (all_plots views) x) (least v.plots x) (least ((pixel, value) ∷ []) x)
    (rw (← more) (least-set views id v w x at))
    (rw (← more) (least_below (slice_set views id w) id w x (at-set_here views id v w at)))
    (least_below views id v x at)

-- a word of the row, where one pixel's word was lowered
word_at : (words : List ℕ) (pixel value x : ℕ) (old : ℕ) → pixel < length words → value < 2 ^ 64 → slice_index words x ≡ old → old ≤ 2 ^ 64 - 1
    → slice_index (slice_set words pixel (min (slice_index words pixel) value)) x ≡ min old (least ((pixel, value) ∷ []) x)
word_at words pixel value x old inside fits is le = grind (arith, nat_tests, get_or-set_same, get_or-set_other)

plot_keeps : (size : Size) (words : List ℕ) (views : List View) (id pixel value : ℕ) (v : View)
    → pixel < size.pixels → value < 2 ^ 64 → v.live ≡ true → IsKept size words views → get_elem? views id ≡ some v
    → IsKept size (slice_set words pixel (min (slice_index words pixel) value)) (slice_set views id (plotted v pixel value))
plot_keeps size words views id pixel value v inside fits live kept at =
    let w : View = plotted v pixel value in
    let claim_word : slice_index (slice_set words pixel (min (slice_index words pixel) value)) size.pixels ≡ slice_index words size.pixels =
    get_or-set_other words pixel size.pixels (min (slice_index words pixel) value) 0 (λ e. omega arith) in
    record {
      small = kept.small;
      places = length-set words pixel (min (slice_index words pixel) value) ∙ kept.places;
      pixels = λ x low. word_at words pixel value x (least (all_plots views) x) (omega (arith, kept.places)) fits (kept.pixels x low) (least-le (all_plots views) x)
          ∙ sym (least-plotted views id pixel value x v at);
      claims = λ n. rw claim_word (omega (arith, total-set (λ u. times n u.claims) views id v w at, kept.claims n));
      ends = rw claim_word (omega (arith, total-set (λ u. u.ends) views id v w at, kept.ends));
      root = omega (arith, total-set (λ u. one_if u.root) views id v w at, kept.root);
      others = omega (arith, total-set (λ u. one_if u.live) views id v w at, total-set (λ u. u.out) views id v w at, kept.others);
      each = each_set views id v w at (λ f. record { joined = λ dead. absurd (still_live v live dead); worker = f.worker }) kept.each;
    }

pub plot_allows : (size : Size) (slots id pixel value : ℕ) (me : Me (Unit {0}) View) → pixel < size.pixels → value < 2 ^ 64 → me.0.live ≡ true
    → Allows (λ s. IsKept size s.words s.views) slots id me pixel (λ n. min n value) (Plots (step slots pixel value 0 none) me)
plot_allows size slots id pixel value me inside fits live = λ s kept homes at small. (plotted me.0 pixel value, keeps, tt, plot_keeps size s.words s.views id pixel value me.0 inside fits live kept at, (refl, refl))
