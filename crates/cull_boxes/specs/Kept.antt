-- The blocks that a view has to look at.
use Rattle.std.specs.Prelude.{◌≡◌, ◌↔◌, ℕ, ◌<◌, IsTrue, List, length, Some, slice_get}
use Rattle.std.specs.List.{All, AllPairs, Contains}
use Rattle.view_base.specs.declared.place.Point.{Point}
use Rattle.view_meaning.specs.Camera.{Lens}
use Rattle.view_meaning.specs.Classes.{in_box}
use Rattle.grid_blocks.specs.declared.block.Block.{Block}
use Rattle.int_camera.specs.HalfSpaces.{IsInView}
use Rattle.cull_boxes.specs.Outside.{IsOutside}

-- the numbers of exactly the blocks that are not outside a camera's view, rising
pub record IsKept (lens : Lens) (blocks : List Block) (kept : List ℕ) : Type 0 where
  pub rising : AllPairs (λ j k. j < k) kept
  pub below : All (λ k. k < length blocks) kept
  pub exactly : (k : ℕ) (block : Block) → slice_get blocks k ≡ Some block → Contains kept k ↔ (¬ IsOutside lens block.area)

-- numbers of blocks among which is each block in whose box some point is in view
abbrev pub HasEachInView : Lens → List Block → List ℕ → Type 0
HasEachInView lens blocks kept =
    (k : ℕ) (block : Block) (p : Point) → slice_get blocks k ≡ Some block → IsTrue (in_box block.area p) → IsInView lens p → Contains kept k
