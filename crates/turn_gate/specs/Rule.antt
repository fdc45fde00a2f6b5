-- What always holds of a gate.
use Rattle.std.specs.Prelude.{◌≡◌, ℕ, ◌+◌, ◌<◌, ◌≤◌, ◌==◌, nat_lt, max, Bool, true, false, List, [], ◌∷◌, length, slice_index, All, Option, None, Some, if◌then◌else◌}
use mathlib.Core.List.{IsPrefix}
use mathlib.Core.Option.{some}
use lib.ListN.{get_elem?}
use Rattle.turn_gate.specs.declared.view.View.{View}
use Rattle.turn_gate.specs.Homes.{Homes}
use Rattle.turn_gate.specs.Meaning.{made_by}

-- 1 for a fact that holds, else 0
abbrev pub one_if : Bool → ℕ
one_if b = if b then 1 else 0

module _ {E : Type 0} where
  -- the sum of f over all views
  abbrev pub total : (View E → ℕ) → List (View E) → ℕ
  total f [] = 0
  total f (v ∷ vs) = f v + total f vs

  -- how many entries the view that has seen most has seen
  abbrev pub most_seen : List (View E) → ℕ
  most_seen [] = 0
  most_seen (v ∷ vs) = max (length v.seen) (most_seen vs)

  -- how often the number stands among those of joined passes
  abbrev pub kept_times : ℕ → List (ℕ × List E) → ℕ
  kept_times n [] = 0
  kept_times n (k ∷ ks) = one_if (k.0 == n) + kept_times n ks

  -- how often the view has the number, as its own or a joined pass's
  abbrev pub has_number : ℕ → View E → ℕ
  has_number n v = (if v.live then one_if (v.who == n) else 0) + kept_times n v.kept

-- replays: the histories that may be; maker: the number of an entry's maker
module _ {E : Type 0} (replays : List E → Type 0) (maker : E → ℕ) where
  -- each number has just the entries of the history that are listed for it
  abbrev pub AreOf : List E → List (ℕ × List E) → Type 0
  AreOf log [] = Unit {0}
  AreOf log (k ∷ ks) = (made_by maker k.0 log ≡ k.1) × AreOf log ks

  -- What a view has seen is a beginning of the history and legal, and its own entries are those of the history by its number; outside a turn it has seen them all. In a turn it knows the whole history. What was joined has nothing left, and only the root, whose number is 0, has passes out
  pub record IsFitting (log : List E) (v : View E) : Type 0 where
    pub seen : IsPrefix v.seen log
    pub met : IsPrefix v.met v.seen
    pub legal : v.live ≡ true → replays v.seen
    pub own : v.live ≡ true → made_by maker v.who log ≡ v.mine
    pub settled : v.live ≡ true → v.inside ≡ false → made_by maker v.who v.seen ≡ v.mine
    pub turn : v.inside ≡ true → v.noted ≡ log
    pub away : v.away ≡ true → v.inside ≡ true
    pub kept : AreOf log v.kept
    pub joined : v.live ≡ false → (v.root ≡ false) × (v.inside ≡ false) × (v.seen ≡ [])
    pub first : v.root ≡ true → v.who ≡ 0
    pub worker : v.root ≡ false → (v.out ≡ 0) × (v.given ≡ 0) × (v.kept ≡ [])

  -- is: the value may stand for the history. Of the words the first is the number of views in a turn, which is 0 or 1, and the second the length of the history. While no view is in a turn, the slot has the value that stands for the history, which is legal, and some view has seen it whole. While a caller has the value, the slot is empty. One live view is the root, which knows how many others there are. Each number given is one live view's or one joined pass's, and each entry has such a number
  pub record IsKept {S : Type 0} (is : S → List E → Type 0) (log : List E) (words : List ℕ) (homes : Homes (Option S)) (views : List (View E)) : Type 0 where
    pub places : length words ≡ 3
    pub turn : slice_index words 0 ≡ total (λ v. one_if v.inside) views
    pub one : total (λ v. one_if v.inside) views ≤ 1
    pub count : slice_index words 1 ≡ length log
    pub home : total (λ v. one_if v.inside) views ≡ 0 → (value : S) × (get_elem? homes 0 ≡ some (some (Some value))) × is value log
    pub away : (id : ℕ) (v : View E) → get_elem? views id ≡ some v → v.away ≡ true → get_elem? homes 0 ≡ some (some None)
    pub legal : total (λ v. one_if v.inside) views ≡ 0 → replays log
    pub top : total (λ v. one_if v.inside) views ≡ 0 → most_seen views ≡ length log
    pub root : total (λ v. one_if v.root) views ≡ 1
    pub others : total (λ v. one_if v.live) views ≡ total (λ v. v.out) views + 1
    pub numbers : (n : ℕ) → total (has_number n) views ≡ one_if (nat_lt n (total (λ v. v.given) views + 1))
    pub makers : All (λ e. maker e < total (λ v. v.given) views + 1) log
    pub each : (id : ℕ) (v : View E) → get_elem? views id ≡ some v → IsFitting log v

  -- the rule, of some history
  abbrev pub IsKeptSome : {S : Type 0} → (S → List E → Type 0) → List ℕ → Homes (Option S) → List (View E) → Type 0
  IsKeptSome is words homes views = (log : List E) × IsKept is log words homes views
