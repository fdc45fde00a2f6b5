-- The records of a survey in blocks.
use Rattle.std.specs.Prelude.{◌≡◌, ℕ, ◌+◌, ◌≤◌, Bool, List, [], ◌∷◌, map, slice_get, take, drop, Option, Some, None, IfSome}
use Rattle.std.specs.List.{All, range_with_len}
use Rattle.std.specs.List.Sorted.{IsPermutation}
use Rattle.view_base.specs.declared.place.Point.{Point}
use Rattle.grid_blocks.specs.declared.block.Block.{Block}
use Rattle.grid_blocks.specs.declared.copies.Copies.{Copies}
use Rattle.view_meaning.specs.Survey.{record_count, point_of, withheld_of}
use Rattle.grid_blocks.specs.LeastBox.{IsLeastBox}

-- the points and withheld bits of records, in the order of places
pub record Copied : Type 0 where
  pub points : List Point
  pub withheld : List Bool

-- blocks as callers see them: the blocks, the record at each place, and the records' copies where they are held
pub record Blocked : Type 0 where
  pub blocks : List Block
  pub members : List ℕ
  pub copies : Option Copied

-- what a list has at the places of a block
abbrev pub part : {A : Type 0} → Block → List A → List A
part block items = take block.count (drop block.first items)

-- each block begins where the one before it ends, from a first place to an end
abbrev pub Follow : ℕ → List Block → ℕ → Type 0
Follow at [] end = at ≡ end
Follow at (block ∷ blocks) end = (block.first ≡ at) × Follow (at + block.count) blocks end

-- blocks of 1 to 1024 places that follow each other from place 0 to the end of so many places
pub record IsCut (blocks : List Block) (places : ℕ) : Type 0 where
  pub follow : Follow 0 blocks places
  pub sizes : All (λ block. (1 ≤ block.count) × (block.count ≤ 1024)) blocks

-- copies that are of these records
pub record IsCopied (b members : List ℕ) (copied : Copied) : Type 0 where
  pub points : copied.points ≡ map (point_of b) members
  pub withheld : copied.withheld ≡ map (withheld_of b) members

-- blocks of a survey: each record stands at one place, each place in one block, and each block has the least
-- box of its records
pub record IsBlocks (b : List ℕ) (blocked : Blocked) : Type 0 where
  pub members : IsPermutation (range_with_len 0 (record_count b)) blocked.members
  pub cut : IsCut blocked.blocks (record_count b)
  pub areas : All (λ block. IsLeastBox (map (point_of b) (part block blocked.members)) block.area) blocked.blocks
  pub copies : IfSome blocked.copies (IsCopied b blocked.members)

-- numbers are those of the records in block k
abbrev pub AreInBlock : Blocked → ℕ → List ℕ → Type 0
AreInBlock blocked k numbers = (block : Block) → slice_get blocked.blocks k ≡ Some block → numbers ≡ part block blocked.members

-- items are what a field tells of records by their numbers, in the survey of these blocks
abbrev pub AreTold : {A : Type 0} → (List ℕ → ℕ → A) → Blocked → List ℕ → List A → Type 0
AreTold field blocked numbers items = (b : List ℕ) → IsBlocks b blocked → items ≡ map (field b) numbers

-- the members of blocks that hold these copies, or of blocks of so many records in the order of numbers
abbrev pub members_of : ℕ → Option Copies → List ℕ
members_of records None = range_with_len 0 records
members_of records (Some copies) = copies.numbers.items

-- the points and withheld bits that are held, if they are
abbrev pub copied_of : Option Copies → Option Copied
copied_of None = None
copied_of (Some copies) = Some (record { points = copies.points.items; withheld = copies.withheld.items })
