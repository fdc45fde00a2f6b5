-- What always holds of a frame, and what its steps do to a view.
use Rattle.std.specs.Prelude.{◌≡◌, ℕ, ◌+◌, ◌-◌, ◌^◌, ◌<◌, ◌≤◌, min, Bool, true, false, nat_lt, List, [], ◌∷◌, ◌++◌, length, slice_index, All, if◌then◌else◌}
use mathlib.Core.Option.{some}
use lib.ListN.{get_elem?}
use Rattle.atomic_table.specs.Table.{Step, Me}
use Rattle.min_frame.specs.declared.view.Size.{Size}
use Rattle.min_frame.specs.declared.view.View.{View}
use Rattle.min_frame.specs.Claimed.{times}
use Rattle.min_frame.specs.Least.{least}

-- 1 for a fact that holds, else 0
abbrev pub one_if : Bool → ℕ
one_if b = if b then 1 else 0

-- the sum of f over all views
abbrev pub total : (View → ℕ) → List View → ℕ
total f [] = 0
total f (v ∷ vs) = f v + total f vs

-- what all views together have plotted
abbrev pub all_plots : List View → List (ℕ × ℕ)
all_plots [] = []
all_plots (v ∷ vs) = v.plots ++ all_plots vs

-- what was joined has nothing left, and only the root has seats out
pub record IsFitting (v : View) : Type 0 where
  pub joined : v.live ≡ false → (v.plots ≡ []) × (v.claims ≡ []) × (v.ends ≡ 0) × (v.root ≡ false)
  pub worker : v.root ≡ false → v.out ≡ 0

-- The claim word stands behind the pixels' words. Each pixel's word is the least of all plots on it; the numbers claimed are those
-- below the claim word and below `blocks`, each once; the claim word is above `blocks` by as many as the ends that were used;
-- one live view is the root, which knows how many others there are
pub record IsKept (size : Size) (words : List ℕ) (views : List View) : Type 0 where
  pub small : size.blocks + size.ends < 2 ^ 63
  pub places : length words ≡ size.pixels + 1
  pub pixels : (x : ℕ) → x < size.pixels → slice_index words x ≡ least (all_plots views) x
  pub claims : (n : ℕ) → total (λ v. times n v.claims) views ≡ one_if (nat_lt n (min (slice_index words size.pixels) size.blocks))
  pub ends : (slice_index words size.pixels - size.blocks) + total (λ v. v.ends) views ≡ size.ends
  pub root : total (λ v. one_if v.root) views ≡ 1
  pub others : total (λ v. one_if v.live) views ≡ total (λ v. v.out) views + 1
  pub each : (id : ℕ) (v : View) → get_elem? views id ≡ some v → IsFitting v

-- the first view, with all ends
abbrev pub root_view : ℕ → View
root_view ends = record { plots = []; claims = []; ends = ends; root = true; out = 0; live = true }

-- a new worker's view, with so many ends
abbrev pub worker_view : ℕ → View
worker_view ends = record { plots = []; claims = []; ends = ends; root = false; out = 0; live = true }

-- what is left of a view that was joined
abbrev pub spent_view : View
spent_view = record { plots = []; claims = []; ends = 0; root = false; out = 0; live = false }

-- the root's view after it gave so many ends to a new worker
abbrev pub parted : View → ℕ → View
parted v ends = record { plots = v.plots; claims = v.claims; ends = v.ends - ends; root = v.root; out = v.out + 1; live = v.live }

-- the root's view with a worker's account
abbrev pub merged : View → View → View
merged v w = record { plots = v.plots ++ w.plots; claims = v.claims ++ w.claims; ends = v.ends + w.ends; root = v.root; out = v.out - 1; live = v.live }

-- the view after one more plot
abbrev pub plotted : View → ℕ → ℕ → View
plotted v pixel value = record { plots = v.plots ++ (pixel, value) ∷ []; claims = v.claims; ends = v.ends; root = v.root; out = v.out; live = v.live }

-- the view after one more number was claimed
abbrev pub claimed : View → ℕ → View
claimed v number = record { plots = v.plots; claims = v.claims ++ number ∷ []; ends = v.ends; root = v.root; out = v.out; live = v.live }

-- the view after a claim that found nothing left
abbrev pub ended : View → View
ended v = record { plots = v.plots; claims = v.claims; ends = v.ends - 1; root = v.root; out = v.out; live = v.live }

-- the pair of pixel and value was appended to the seat's own plots
abbrev pub Plots : Step (Unit {0}) → Me (Unit {0}) View → ℕ → Me (Unit {0}) View → Type 0
Plots s before found after = (after.0 ≡ plotted before.0 s.word s.first) × (after.1 ≡ before.1)

-- the number found was claimed where it is below `blocks`, and is above the seat's earlier ones; else one of the ends was used
pub record Claims (blocks : ℕ) (s : Step (Unit {0})) (before : Me (Unit {0}) View) (found : ℕ) (after : Me (Unit {0}) View) : Type 0 where
  pub slots : after.1 ≡ before.1
  pub taken : found < blocks → after.0 ≡ claimed before.0 found
  pub above : found < blocks → All (λ n. n < found) before.0.claims
  pub ended : blocks ≤ found → after.0 ≡ ended before.0
