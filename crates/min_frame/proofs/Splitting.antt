-- A split keeps the rule.
use Rattle.std.proofs.Common.{◌≡◌, ℕ, ◌<◌, true, List, [], ◌∷◌, ◌++◌, slice_set, refl, sym, ◌∙◌, arith}
use mathlib.Core.Option.{some}
use lib.ListN.{get_elem?}
use Rattle.atomic_table.specs.Table.{Splits}
use Rattle.min_frame.specs.declared.view.Size.{Size}
use Rattle.min_frame.specs.declared.view.View.{View}
use Rattle.min_frame.specs.Claimed.{times}
use Rattle.min_frame.specs.Least.{least}
use Rattle.min_frame.specs.Rule.{one_if, all_plots, IsKept, parted, worker_view}
use Rattle.min_frame.proofs.Leasts.{least-le, least-snoc, least-same_plots}
use Rattle.min_frame.proofs.Totals.{total_split}
use Rattle.min_frame.proofs.Views.{each_set, each_snoc, not_both, still_live}

least-split : (views : List View) (id k x : ℕ) (v : View) → get_elem? views id ≡ some v
    → least (all_plots (slice_set views id (parted v k) ++ worker_view k ∷ [])) x ≡ least (all_plots views) x
least-split views id k x v at =
    let more = least-snoc (slice_set views id (parted v k)) (worker_view k) x in
    let same = least-same_plots views id v (parted v k) x at refl in
    let le = least-le (all_plots views) x in
    omega arith

split_keeps : (size : Size) (words : List ℕ) (views : List View) (id k : ℕ) (v : View)
    → k < v.ends → v.root ≡ true → v.live ≡ true → IsKept size words views → get_elem? views id ≡ some v
    → IsKept size words (slice_set views id (parted v k) ++ worker_view k ∷ [])
split_keeps size words views id k v enough root live kept at =
    let l : View = parted v k in
    let r : View = worker_view k in
    record {
      small = kept.small;
      places = kept.places;
      pixels = λ x inside. kept.pixels x inside ∙ sym (least-split views id k x v at);
      claims = λ n. omega (arith, total_split (λ u. times n u.claims) views id v l r at, kept.claims n);
      ends = omega (arith, total_split (λ u. u.ends) views id v l r at, kept.ends);
      root = omega (arith, total_split (λ u. one_if u.root) views id v l r at, kept.root);
      others = omega (arith, total_split (λ u. one_if u.live) views id v l r at, total_split (λ u. u.out) views id v l r at, kept.others);
      each = each_snoc (slice_set views id l) r (record { joined = λ dead. absurd (still_live r refl dead); worker = λ h. refl })
          (each_set views id v l at (λ f. record { joined = λ dead. absurd (still_live v live dead); worker = λ no. absurd (not_both v.root root no) }) kept.each);
    }

pub split_splits : (size : Size) (id k : ℕ) (v : View) → k < v.ends → v.root ≡ true → v.live ≡ true
    → Splits {S = Unit {0}} {V = View} (λ s. IsKept size s.words s.views) id v (parted v k) (worker_view k)
split_splits size id k v enough root live = λ s kept at. split_keeps size s.words s.views id k v enough root live kept at
