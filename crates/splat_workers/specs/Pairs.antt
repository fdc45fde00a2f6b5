-- What is plotted of a survey: pairs of a pixel and a value, which has a depth above a record's number.
use Rattle.std.specs.Prelude.{ℕ, ◌+◌, ◌*◌, ◌^◌, if◌then◌else◌, List, [], ◌∷◌, slice_get, Option, Some, None}
use Rattle.std.specs.List.{flat_map}
use Rattle.view_meaning.specs.Survey.{point_of}
use Rattle.view_meaning.specs.Classes.{Filter, passes}
use Rattle.view_meaning.specs.Camera.{Lens, Spot, spot, pixel_of}
use Rattle.grid_blocks.specs.declared.block.Block.{Block}
use Rattle.grid_blocks.specs.Blocks.{Blocked, part}

-- the pair of a record on its spot, if it has one
abbrev pub pair_at : Lens → ℕ → Option Spot → List (ℕ × ℕ)
pair_at lens i None = []
pair_at lens i (Some s) = (pixel_of lens s, s.depth * 2 ^ 32 + i) ∷ []

-- the pair of record i, if it passes the filter and is in view
unfoldable pub pair_of : List ℕ → List ℕ → Lens → Filter → ℕ → List (ℕ × ℕ)
pair_of b cs lens filter i = if passes b cs filter i then pair_at lens i (spot lens (point_of b i)) else []

-- the numbers of the records of a block, if it is there
abbrev pub members_in : List ℕ → Option Block → List ℕ
members_in members None = []
members_in members (Some block) = part block members

-- the pairs of the records of block k
unfoldable pub block_pairs : List ℕ → List ℕ → Lens → Filter → Blocked → ℕ → List (ℕ × ℕ)
block_pairs b cs lens filter blocked k = flat_map (pair_of b cs lens filter) (members_in blocked.members (slice_get blocked.blocks k))
