-- A gate, a pass and a turn as their callers see them.
use Rattle.std.specs.Prelude.{◌≡◌, ℕ, ◌-◌, ◌==◌, nat_lt, Bool, true, false, List, [], ◌∷◌, ◌++◌, length, drop, Option, Some, None, if◌then◌else◌}
use Rattle.atomic_table.specs.Seated.{TableId}

-- which gate it is, and the value that it was made with
pub record Gated (S : Type 0) : Type 0 where
  pub name : TableId
  pub first : S

-- which gate the pass is of, its number, the beginning of the history that it has seen, the entries that it made, the history as counted so far where it has the turn, whether it is the root, how many passes are split off and not joined, how many were ever split off, and the number of each joined pass with the entries that it made
pub record Passed (E : Type 0) : Type 0 where
  pub gate : TableId
  pub who : ℕ
  pub seen : List E
  pub mine : List E
  pub turn : Option (List E)
  pub root : Bool
  pub out : ℕ
  pub given : ℕ
  pub kept : List (ℕ × List E)

-- the root pass of a gate that was just made
abbrev pub root_pass : {E : Type 0} → TableId → Passed E
root_pass gate = record { gate = gate; who = 0; seen = []; mine = []; turn = None; root = true; out = 0; given = 0; kept = [] }

-- a pass of that number that was just split off, when its root had seen these entries
abbrev pub new_pass : {E : Type 0} → TableId → ℕ → List E → Passed E
new_pass gate who seen = record { gate = gate; who = who; seen = seen; mine = []; turn = None; root = false; out = 0; given = 0; kept = [] }

-- the pass in its turn once the entries of a history are counted that are past those noted before
abbrev pub counted : {E : Type 0} → Passed E → List E → List E → Passed E
counted pass noted entries = record pass { mine = pass.mine ++ drop (length noted) entries; turn = Some entries }

-- which gate the turn is of, the number of its pass, and the entries that were found and noted
pub record Turned (E : Type 0) : Type 0 where
  pub gate : TableId
  pub who : ℕ
  pub noted : List E

-- the turn is the one that the pass has
pub record IsTurnOf {E : Type 0} (turn : Turned E) (pass : Passed E) : Type 0 where
  pub gate : turn.gate ≡ pass.gate
  pub who : turn.who ≡ pass.who
  pub noted : pass.turn ≡ Some turn.noted

-- the entries of the history that the caller of that number made
abbrev pub made_by : {E : Type 0} → (E → ℕ) → ℕ → List E → List E
made_by maker who [] = []
made_by maker who (e ∷ es) = if maker e == who then e ∷ made_by maker who es else made_by maker who es

-- the longer of two lists, or the first
abbrev pub longer : {E : Type 0} → List E → List E → List E
longer xs ys = if nat_lt (length xs) (length ys) then ys else xs

-- the other one
abbrev pub shorter : {E : Type 0} → List E → List E → List E
shorter xs ys = if nat_lt (length xs) (length ys) then xs else ys

-- the root once a pass was joined: it has seen the longer of the two lists, and keeps the pass's number and entries
abbrev pub with_joined : {E : Type 0} → Passed E → Passed E → Passed E
with_joined root pass = record root { seen = longer root.seen pass.seen; out = root.out - 1; kept = root.kept ++ (pass.who, pass.mine) ∷ [] }

-- what the pass has seen is a legal history, in which its own entries stand once and in order
pub record IsSettled {E : Type 0} (replays : List E → Type 0) (maker : E → ℕ) (pass : Passed E) : Type 0 where
  pub legal : replays pass.seen
  pub own : made_by maker pass.who pass.seen ≡ pass.mine
