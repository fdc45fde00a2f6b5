-- Blocks in the order of cells.
use Rattle.std.specs.Prelude.{◌≡◌, ◌≢◌, ◌⊎◌, ℕ, ◌+◌, ◌<◌, ◌≤◌, List, length, map, slice_index}
use Rattle.std.specs.List.{All, AllPairs, range_with_len}
use Rattle.view_base.specs.declared.place.Box3.{Box3}
use Rattle.view_meaning.specs.Survey.{record_count, point_of}
use Rattle.grid_blocks.specs.declared.block.Block.{Block}
use Rattle.grid_blocks.specs.LeastBox.{IsLeastBox}
use Rattle.grid_blocks.specs.Grid.{IsExponent, key}
use Rattle.grid_blocks.specs.Blocks.{Blocked}

-- whether a record comes before another by two keys, and by the numbers where the keys are the same
abbrev pub Precedes : (ℕ → ℕ) → ℕ → ℕ → Type 0
Precedes key_of i j = (key_of i < key_of j) ⊎ ((key_of i ≡ key_of j) × (i < j))

-- a block of records of one key, that has all of them up to its first place on, or 1024
pub record IsRun (key_at : ℕ → ℕ) (places : ℕ) (block : Block) : Type 0 where
  pub alone : (place : ℕ) → block.first ≤ place → place < block.first + block.count → key_at place ≡ key_at block.first
  pub full : block.count < 1024 → block.first + block.count < places → key_at (block.first + block.count) ≢ key_at block.first

-- blocks in the order of cells: the cells are those of the least box of all records, the records stand in the
-- order of their cell's key and then of their number, and those of one key are cut from the front into blocks
-- of 1024, the last one with what is left
pub record IsByCells (b : List ℕ) (blocked : Blocked) : Type 0 where
  pub area : Box3
  pub exponent : ℕ
  pub box : IsLeastBox (map (point_of b) (range_with_len 0 (record_count b))) area
  pub is_exponent : IsExponent area exponent
  pub order : AllPairs (Precedes (λ i. key area exponent (point_of b i))) blocked.members
  pub runs : All (IsRun (λ place. key area exponent (point_of b (slice_index blocked.members place))) (length blocked.members)) blocked.blocks
