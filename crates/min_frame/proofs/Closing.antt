-- What the rule says once the root is the only seat left.
use Rattle.std.proofs.Common.{◌≡◌, ℕ, zero, suc, ◌+◌, ◌-◌, ◌^◌, ◌<◌, ◌≤◌, min, true, false, nat_lt, List, [], ◌∷◌, length, slice_index, All, Contains, sym, ap, subst, ◌∙◌, arith}
use Rattle.std.proofs.lemmas.Bool.Decides.{nat_tests}
use mathlib.Core.Logic.{dite}
use mathlib.Core.Option.{some, some-injective, some-ne-none}
use native.Mathlib.Decide.{ℕ_discrete}
use lib.ListN.{get_elem?}
use Rattle.atomic_table.specs.Table.{Final, Seen}
use Rattle.min_frame.specs.declared.view.Size.{Size}
use Rattle.min_frame.specs.declared.view.View.{View}
use Rattle.min_frame.specs.Claimed.{times}
use Rattle.min_frame.specs.Least.{least}
use Rattle.min_frame.specs.Rule.{one_if, total, all_plots, IsKept, spent_view}
use Rattle.min_frame.proofs.Claiming.{all_of_times}
use Rattle.min_frame.proofs.Leasts.{least-le, least-set, all_plots-nil}
use Rattle.min_frame.proofs.Others.{without, one_if-zero, one_if-true, rest_fits, rest_out}
use Rattle.min_frame.proofs.Totals.{total-set, total_has, total-zero}

-- what was joined is all that the other views are
rest_joined : (size : Size) (words : List ℕ) (views : List View) (id : ℕ) (v : View) → v.root ≡ true → v.live ≡ true → v.out ≡ 0 → IsKept size words views → get_elem? views id ≡ some v
    → (j : ℕ) (u : View) → get_elem? (without views id) j ≡ some u → u.live ≡ false
rest_joined size words views id v root live out kept at j u there =
    one_if-zero u.live (omega (
      arith,
      total_has (λ t. one_if t.live) (without views id) j u there,
      total-set (λ t. one_if t.live) views id v spent_view at,
      total-set (λ t. t.out) views id v spent_view at,
      rest_out size words views id v root kept at,
      kept.others,
      one_if-true v.live live,
      out,
    ))

-- the rule, of the one view that is left
pub record IsLast (size : Size) (words : List ℕ) (v : View) : Type 0 where
  pub places : length words ≡ size.pixels + 1
  pub pixels : (x : ℕ) → x < size.pixels → slice_index words x ≡ least v.plots x
  pub claims : (n : ℕ) → times n v.claims ≡ one_if (nat_lt n (min (slice_index words size.pixels) size.blocks))
  pub ends : (slice_index words size.pixels - size.blocks) + v.ends ≡ size.ends

last_step : (all mine top : ℕ) → min top mine ≡ min all top → mine ≤ top → all ≤ top → all ≡ mine
last_step all mine top e a b = omega arith

pub is_last : (size : Size) (words : List ℕ) (views : List View) (id : ℕ) (v : View) → v.root ≡ true → v.live ≡ true → v.out ≡ 0 → IsKept size words views → get_elem? views id ≡ some v → IsLast size words v
is_last size words views id v root live out kept at =
    let fits = rest_fits size words views id v kept at in
    let joined = rest_joined size words views id v root live out kept at in
    let no_plots : all_plots (without views id) ≡ [] = all_plots-nil (without views id) (λ j u there. ((fits j u there).joined (joined j u there)).0) in
    let no_ends : total (λ u. u.ends) (without views id) ≡ 0 = total-zero (λ u. u.ends) (without views id) (λ j u there. ((fits j u there).joined (joined j u there)).2) in
    let no_claims : (n : ℕ) → total (λ u. times n u.claims) (without views id) ≡ 0 =
    λ n. total-zero (λ u. times n u.claims) (without views id) (λ j u there. ap (times n) ((fits j u there).joined (joined j u there)).1) in
    record {
      places = kept.places;
      pixels = λ x inside. kept.pixels x inside ∙ last_step (least (all_plots views) x) (least v.plots x) (2 ^ 64 - 1)
          (ap (λ ps. min (least ps x) (least v.plots x)) (sym no_plots) ∙ least-set views id v spent_view x at) (least-le v.plots x) (least-le (all_plots views) x);
      claims = λ n. omega (arith, total-set (λ u. times n u.claims) views id v spent_view at, no_claims n, kept.claims n);
      ends = omega (arith, total-set (λ u. u.ends) views id v spent_view at, no_ends, kept.ends);
    }

pub last_once : (size : Size) (words : List ℕ) (v : View) → IsLast size words v → (n : ℕ) → times n v.claims ≤ 1
last_once size words v last n = let e = last.claims n in grind (arith, nat_tests)

below_both : (n w blocks : ℕ) → 1 ≤ one_if (nat_lt n (min w blocks)) → n < blocks
below_both n w blocks one = grind (arith, nat_tests)

pub last_below : (size : Size) (words : List ℕ) (v : View) → IsLast size words v → All (λ n. n < size.blocks) v.claims
last_below size words v last =
    all_of_times (λ n. n < size.blocks) v.claims (λ n once. below_both n (slice_index words size.pixels) size.blocks (omega (arith, last.claims n)))

pub contains_of_times : (n : ℕ) (ks : List ℕ) → 1 ≤ times n ks → Contains ks n
contains_of_times n [] once = absurd (omega arith)
contains_of_times n (k ∷ ks) once =
    dite (ℕ_discrete k n)
    (λ e. (0, omega arith, e))
    (λ other. let later = contains_of_times n ks (grind (arith, nat_tests)) in (suc later.0, omega (arith, later.1), later.2))

reached : (n w blocks : ℕ) → blocks < w → n < blocks → 1 ≤ one_if (nat_lt n (min w blocks))
reached n w blocks past low = grind (arith, nat_tests)

pub last_all : (size : Size) (words : List ℕ) (v : View) → IsLast size words v → v.ends < size.ends → (n : ℕ) → n < size.blocks → Contains v.claims n
last_all size words v last used n low =
    contains_of_times n v.claims (omega (arith, last.claims n, reached n (slice_index words size.pixels) size.blocks (omega (arith, last.ends)) low))

pub final_last : (size : Size) (id : ℕ) (v : View) (ws : List ℕ) (xs : List (Unit {0})) → v.root ≡ true → v.live ≡ true → v.out ≡ 0
    → Final {S = Unit {0}} {V = View} (Seen (λ s. IsKept size s.words s.views) id v) ws xs → IsLast size ws v
final_last size id v ws xs root live out end =
    subst (λ l. IsLast size l v) end.2 (is_last size end.0.words end.0.views id v root live out end.1.0 end.1.1)

pub slice_index-get : (xs : List ℕ) (i n : ℕ) → get_elem? xs i ≡ some n → slice_index xs i ≡ n
slice_index-get [] i n at = absurd (some-ne-none n (sym at))
slice_index-get (x ∷ xs) zero n at = some-injective x n at
slice_index-get (x ∷ xs) (suc i) n at = slice_index-get xs i n at
