-- A join keeps the rule.
use Rattle.std.proofs.Common.{◌≡◌, ℕ, ◌+◌, ◌-◌, ◌^◌, ◌≤◌, min, true, false, List, slice_set, sym, ap, ◌∙◌, arith}
use mathlib.Core.Option.{some}
use lib.ListN.{get_elem?}
use Rattle.atomic_table.specs.Table.{Joins}
use Rattle.atomic_table.proofs.Lists.{set_else}
use Rattle.min_frame.specs.declared.view.Size.{Size}
use Rattle.min_frame.specs.declared.view.View.{View}
use Rattle.min_frame.specs.Claimed.{times}
use Rattle.min_frame.specs.Least.{least}
use Rattle.min_frame.specs.Rule.{one_if, total, all_plots, IsKept, merged, spent_view}
use Rattle.min_frame.proofs.Claiming.{times-append}
use Rattle.min_frame.proofs.Leasts.{least-le, least-append, least-set, least_below}
use Rattle.min_frame.proofs.Others.{without, one_if-true, spent_fits, rest_out}
use Rattle.min_frame.proofs.Totals.{total-set, total_has}
use Rattle.min_frame.proofs.Views.{at-set_here, each_set, still_live, not_both}

-- all: the least before, after the first change and after the second; v, w: those of the two views; top: the empty word
join_step : (all all' all'' v w top : ℕ) → min all' v ≡ min all (min v w) → min all'' w ≡ min all' top → all' ≤ min v w → all'' ≤ min v w → all ≤ v → all ≤ w → all' ≤ top → all'' ≡ all
join_step all all' all'' v w top one two a b c d e = omega arith

least-joined : (views : List View) (id other x : ℕ) (v w : View) → get_elem? views id ≡ some v → ¬ (other ≡ id) → get_elem? (slice_set views id (merged v w)) other ≡ some w
    → least (all_plots (slice_set (slice_set views id (merged v w)) other spent_view)) x ≡ least (all_plots views) x
least-joined views id other x v w at apart there =
    let both : View = merged v w in
    let first : List View = slice_set views id both in
    let second : List View = slice_set first other spent_view in
    let more = least-append v.plots w.plots x in
    let here : get_elem? first id ≡ some both = at-set_here views id v both at in
    let kept : get_elem? second id ≡ some both = set_else first other id spent_view (λ e. apart (sym e)) ∙ here in
    join_step (least (all_plots views) x) (least (all_plots first) x) (least (all_plots second) x) (least v.plots x) (least w.plots x) (2 ^ 64 - 1)
    (rw (← more) (least-set views id v both x at))
    (least-set first other w spent_view x there)
    (rw (← more) (least_below first id both x here))
    (rw (← more) (least_below second id both x kept))
    (least_below views id v x at)
    (least_below views other w x (sym (set_else views id other both apart) ∙ there))
    (least-le (all_plots first) x)

total_joined : (f : View → ℕ) (views : List View) (id other : ℕ) (v w both spent : View) → get_elem? views id ≡ some v → get_elem? (slice_set views id both) other ≡ some w
    → total f (slice_set (slice_set views id both) other spent) + (f v + f w) ≡ total f views + (f both + f spent)
total_joined f views id other v w both spent at there = omega (arith, total-set f views id v both at, total-set f (slice_set views id both) other w spent there)

-- a root that another live view stands beside has seats out
root_out : (size : Size) (words : List ℕ) (views : List View) (id other : ℕ) (v w : View) → v.root ≡ true → v.live ≡ true → w.live ≡ true → IsKept size words views
    → get_elem? views id ≡ some v → get_elem? (without views id) other ≡ some w → 1 ≤ v.out
root_out size words views id other v w root live alive kept at there =
    omega (
      arith,
      total_has (λ t. one_if t.live) (without views id) other w there,
      total-set (λ t. one_if t.live) views id v spent_view at,
      total-set (λ t. t.out) views id v spent_view at,
      rest_out size words views id v root kept at,
      kept.others,
      one_if-true v.live live,
      one_if-true w.live alive,
    )

join_keeps : (size : Size) (words : List ℕ) (views : List View) (id other : ℕ) (v w : View)
    → v.root ≡ true → v.live ≡ true → w.root ≡ false → w.live ≡ true → IsKept size words views
    → get_elem? views id ≡ some v → ¬ (other ≡ id) → get_elem? (slice_set views id (merged v w)) other ≡ some w
    → IsKept size words (slice_set (slice_set views id (merged v w)) other spent_view)
join_keeps size words views id other v w root live worker alive kept at apart there =
    let both : View = merged v w in
    let beside : get_elem? views other ≡ some w = sym (set_else views id other both apart) ∙ there in
    let out : 1 ≤ v.out = root_out size words views id other v w root live alive kept at (set_else views id other spent_view apart ∙ beside) in
    let no_out : w.out ≡ 0 = (kept.each other w beside).worker worker in
    record {
      small = kept.small;
      places = kept.places;
      pixels = λ x inside. kept.pixels x inside ∙ sym (least-joined views id other x v w at apart there);
      claims = λ n. omega (arith, total_joined (λ u. times n u.claims) views id other v w both spent_view at there, times-append n v.claims w.claims, kept.claims n);
      ends = omega (arith, total_joined (λ u. u.ends) views id other v w both spent_view at there, kept.ends);
      root = omega (arith, total_joined (λ u. one_if u.root) views id other v w both spent_view at there, kept.root, ap one_if worker);
      others = omega (
        arith,
        total_joined (λ u. one_if u.live) views id other v w both spent_view at there,
        total_joined (λ u. u.out) views id other v w both spent_view at there,
        kept.others,
        ap one_if alive,
        out,
        no_out,
      );
      each = each_set (slice_set views id both) other w spent_view there (λ f. spent_fits)
          (each_set views id v both at (λ f. record { joined = λ dead. absurd (still_live v live dead); worker = λ no. absurd (not_both v.root root no) }) kept.each);
    }

pub join_joins : (size : Size) (id other : ℕ) (v w : View) → v.root ≡ true → v.live ≡ true → w.root ≡ false → w.live ≡ true
    → Joins {S = Unit {0}} {V = View} (λ s. IsKept size s.words s.views) id v other w (merged v w) spent_view
join_joins size id other v w root live worker alive = λ s kept at apart there. join_keeps size s.words s.views id other v w root live worker alive kept at apart there
