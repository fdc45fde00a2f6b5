-- What workers draw of a plan on a frame.
use Rattle.std.specs.Prelude.{◌≡◌, ◌↔◌, ℕ, ◌*◌, ◌<◌, ◌≤◌, List, length, take, drop}
use Rattle.std.specs.Int.{div_ceil}
use Rattle.std.specs.List.{All, Contains, flat_map}
use Rattle.view_meaning.specs.Survey.{record_count}
use Rattle.grid_blocks.specs.Blocks.{IsBlocks}
use Rattle.min_frame.specs.Meaning.{Framed}
use Rattle.splat_workers.specs.declared.plan.Plan.{Plan}
use Rattle.splat_workers.specs.Pairs.{pair_of, block_pairs}

-- a plan whose parts are of one survey and whose pieces have a block, and a frame with a word for each pixel and a number for each piece
pub record IsFrameFor (plan : Plan) (frame : Framed) : Type 0 where
  pub classes : length plan.classes.now ≡ record_count plan.survey.now
  pub blocks : IsBlocks plan.survey.now plan.blocks.now
  pub kept : All (λ k. k < length plan.blocks.now.blocks) plan.kept.now
  pub step : 1 ≤ plan.step
  pub pixels : frame.pixels ≡ plan.camera.now.width * plan.camera.now.height
  pub numbers : frame.blocks ≡ div_ceil (length plan.kept.now) plan.step

-- the kept blocks of piece n, where a piece has so many
abbrev pub piece_blocks : List ℕ → ℕ → ℕ → List ℕ
piece_blocks kept step n = take step (drop (n * step) kept)

-- the pairs of the records with these numbers
abbrev pub record_pairs : Plan → List ℕ → List (ℕ × ℕ)
record_pairs plan numbers = flat_map (pair_of plan.survey.now plan.classes.now plan.camera.now plan.filter.now) numbers

-- the pairs of the records of block k
abbrev pub pairs_in_block : Plan → ℕ → List (ℕ × ℕ)
pairs_in_block plan k = block_pairs plan.survey.now plan.classes.now plan.camera.now plan.filter.now plan.blocks.now k

-- the pairs of the records of piece n
abbrev pub piece_pairs : Plan → ℕ → List (ℕ × ℕ)
piece_pairs plan n = flat_map (pairs_in_block plan) (piece_blocks plan.kept.now plan.step n)

-- the pairs of the records of the pieces with these numbers
abbrev pub claimed_pairs : Plan → List ℕ → List (ℕ × ℕ)
claimed_pairs plan claims = flat_map (piece_pairs plan) claims

-- lists with the same pairs, in whatever order and however often
abbrev pub SamePairs : List (ℕ × ℕ) → List (ℕ × ℕ) → Type 0
SamePairs plots pairs = (p : ℕ × ℕ) → Contains plots p ↔ Contains pairs p
