-- What the steps of a gate do to a view, and what they tell.
use Rattle.std.specs.Prelude.{◌≡◌, ℕ, ◌+◌, ◌-◌, Bool, true, false, List, [], ◌∷◌, ◌++◌, Option, None, Some, if◌then◌else◌}
use mathlib.Core.List.{IsPrefix}
use Rattle.atomic_table.specs.Table.{Step, Me, rest}
use Rattle.atomic_table.specs.Seated.{TableId}
use Rattle.turn_gate.specs.declared.view.View.{View}
use Rattle.turn_gate.specs.Meaning.{Passed, Turned, made_by, longer, shorter}

module _ {E : Type 0} where
  -- the first view: it has the turn, and its caller has the value
  abbrev pub root_view : View E
  root_view = record { marker = record {}; who = 0; seen = []; mine = []; inside = true; away = true; noted = []; root = true; out = 0; given = 0; kept = []; met = []; live = true }

  -- the view of a pass that was split off
  abbrev pub worker_view : ℕ → List E → View E
  worker_view who seen = record { marker = record {}; who = who; seen = seen; mine = []; inside = false; away = false; noted = []; root = false; out = 0; given = 0; kept = []; met = []; live = true }

  -- what is left of a view that was joined
  abbrev pub spent_view : View E
  spent_view = record { marker = record {}; who = 0; seen = []; mine = []; inside = false; away = false; noted = []; root = false; out = 0; given = 0; kept = []; met = []; live = false }

  -- the view of a badge, which has one
  abbrev pub view_of : List (View E) → View E
  view_of [] = spent_view
  view_of (v ∷ vs) = v

  -- a pass as its callers see it
  abbrev pub passed : TableId → View E → Passed E
  passed gate v = record { gate = gate; who = v.who; seen = v.seen; mine = v.mine; turn = if v.inside then Some v.noted else None; root = v.root; out = v.out; given = v.given; kept = v.kept }

  -- a turn as its callers see it
  abbrev pub turned : TableId → View E → Turned E
  turned gate v = record { gate = gate; who = v.who; noted = v.noted }

  -- the view that took the turn and found this history
  abbrev pub entered : View E → List E → View E
  entered v log = record v { inside = true; noted = log }

  -- the value was handed out, or is back
  abbrev pub lent : View E → Bool → View E
  lent v away = record v { away = away }

  -- the view that counted these entries
  abbrev pub counted : View E → List E → View E
  counted v more = record v { mine = v.mine ++ more; noted = v.noted ++ more }

  -- the view that gave the turn back
  abbrev pub settled : View E → View E
  settled v = record v { inside = false; seen = v.noted }

  -- the root's view after it split a pass off
  abbrev pub parted : View E → View E
  parted v = record v { out = v.out + 1; given = v.given + 1 }

  -- the root's view after it joined a pass
  abbrev pub merged : View E → View E → View E
  merged v w = record v { seen = longer v.seen w.seen; met = shorter v.seen w.seen; out = v.out - 1; kept = v.kept ++ (w.who, w.mine) ∷ [] }

-- what a step tells of the first value: nothing where none is named
abbrev pub OfFirst : {S : Type 0} → (S → Type 0) → List S → Type 0
OfFirst P [] = Unit {0}
OfFirst P (f ∷ fs) = P f

module _ {S E : Type 0} where
  -- where the word was 0 the turn is taken, with a value that stands for the history; what was seen is a legal beginning of it, and both have the pass's own entries. Else nothing changed
  pub record Enters (entries : S → List E) (maker : E → ℕ) (based : S → Type 0) (legal : List E → Type 0) (s : Step (Option S)) (before : Me (Option S) (View E)) (found : ℕ) (after : Me (Option S) (View E)) : Type 0 where
    pub won : found ≡ 0 → (value : S) × (after.0 ≡ entered before.0 (entries value)) × (after.1 ≡ (0, Some value) ∷ before.1) × IsPrefix before.0.seen (entries value) × (made_by maker before.0.who (entries value) ≡ before.0.mine) × based value × legal before.0.seen × (made_by maker before.0.who before.0.seen ≡ before.0.mine)
    pub lost : ¬ (found ≡ 0) → after ≡ before

  -- the slot went home, empty
  abbrev pub Empties : Step (Option S) → Me (Option S) (View E) → ℕ → Me (Option S) (View E) → Type 0
  Empties s before found after = (after.0 ≡ lent before.0 true) × (after.1 ≡ rest before.1)

  -- the empty slot was taken
  abbrev pub Fetches : Step (Option S) → Me (Option S) (View E) → ℕ → Me (Option S) (View E) → Type 0
  Fetches s before found after = (after.0 ≡ lent before.0 false) × (after.1 ≡ (0, None) ∷ before.1)

  -- these entries were counted
  abbrev pub Counts : List E → Step (Option S) → Me (Option S) (View E) → ℕ → Me (Option S) (View E) → Type 0
  Counts more s before found after = (after.0 ≡ counted before.0 more) × (after.1 ≡ before.1)

  -- the turn was given back and the slot went home with the value; the history has the pass's own entries
  abbrev pub Settles : (E → ℕ) → Step (Option S) → Me (Option S) (View E) → ℕ → Me (Option S) (View E) → Type 0
  Settles maker s before found after = (after.0 ≡ settled before.0) × (after.1 ≡ rest before.1) × (made_by maker before.0.who before.0.noted ≡ before.0.mine)

  -- nothing changed; what was seen is legal, and outside a turn it has the pass's own entries
  abbrev pub Looks : (List E → Type 0) → (E → ℕ) → Step (Option S) → Me (Option S) (View E) → ℕ → Me (Option S) (View E) → Type 0
  Looks legal maker s before found after = (after ≡ before) × legal before.0.seen × (before.0.inside ≡ false → made_by maker before.0.who before.0.seen ≡ before.0.mine) × IsPrefix before.0.met before.0.seen

  -- nothing changed
  abbrev pub Stays : Step (Option S) → Me (Option S) (View E) → ℕ → Me (Option S) (View E) → Type 0
  Stays s before found after = after ≡ before
