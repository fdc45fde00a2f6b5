-- A growing list as its callers see it.
use Rattle.std.specs.Prelude.{ℕ, List, ◌++◌, length, take, drop}

-- the items of a list, and how many more it takes without memory
pub record Listed (A : Type 0) : Type 0 where
  pub items : List A
  pub spare : ℕ

-- a list with other items from a place on, as many as were there
abbrev pub with_tail : {A : Type 0} → Listed A → ℕ → List A → Listed A
with_tail list from tail = record { items = take (length list.items) (take from list.items ++ tail ++ drop (length tail) (drop from list.items)); spare = list.spare }
