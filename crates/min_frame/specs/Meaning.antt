-- A frame and a seat as their callers see them.
use Rattle.std.specs.Prelude.{ℕ, ◌+◌, ◌-◌, ◌++◌, Bool, List}
use Rattle.atomic_table.specs.Seated.{TableId}

-- which frame it is, its pixels, the numbers that can be claimed, and how many claims may find nothing left
pub record Framed : Type 0 where
  pub name : TableId
  pub pixels : ℕ
  pub blocks : ℕ
  pub ends : ℕ

-- which frame the seat is of, its plots as pixel and value, the numbers that it claimed,
-- how many of its claims may still find nothing left, whether it is the root, and how many seats were split off and not joined back
pub record Seated : Type 0 where
  pub frame : TableId
  pub plots : List (ℕ × ℕ)
  pub claims : List ℕ
  pub ends : ℕ
  pub root : Bool
  pub out : ℕ

-- the root with a worker's account, once that one is no longer out
abbrev pub with_account : Seated → Seated → Seated
with_account root worker = record {
  frame = root.frame;
  plots = root.plots ++ worker.plots;
  claims = root.claims ++ worker.claims;
  ends = root.ends + worker.ends;
  root = root.root;
  out = root.out - 1;
}
