-- The records of one block.
use Rattle.std.proofs.Common.{◌≡◌, ℕ, zero, suc, ◌+◌, ◌<◌, ◌≤◌, List, [], ◌∷◌, length, get_or, take, drop, Some, refl, sym, ◌∙◌, ap, arith}
use Rattle.std.specs.Prelude.{slice_get}
use Rattle.std.specs.List.{All, flat_map, range_with_len}
use Rattle.std.proofs.lemmas.List.Elements.{All-same, All-take, All-drop}
use Rattle.std.proofs.lemmas.List.Sorted.{All-permutation}
use Rattle.std.proofs.lemmas.List.FromFn.{length-range_with_len, get_or-range_with_len}
use Rattle.view_meaning.specs.Survey.{record_count}
use Rattle.view_meaning.specs.Classes.{Filter}
use Rattle.view_meaning.specs.Camera.{Lens}
use Rattle.grid_blocks.specs.declared.block.Block.{Block}
use Rattle.grid_blocks.specs.Blocks.{Blocked, IsBlocks, part}
use Rattle.grid_blocks.proofs.Once.{part-range}
use Rattle.splat_workers.specs.Pairs.{pair_of, members_in, block_pairs}

-- the pairs of a block are those of its members
pub block_pairs-part : (b cs : List ℕ) (lens : Lens) (filter : Filter) (blocked : Blocked) (k : ℕ) (block : Block) (numbers : List ℕ) → slice_get blocked.blocks k ≡ Some block → numbers ≡ part block blocked.members
    → flat_map (pair_of b cs lens filter) numbers ≡ block_pairs b cs lens filter blocked k
unfolding block_pairs
block_pairs-part b cs lens filter blocked k block numbers is are =
    ap (flat_map (pair_of b cs lens filter)) (are ∙ sym (ap (members_in blocked.members) is))

-- where the places are the numbers, a block's members are those from its first place on
pub part-numbered : (members : List ℕ) (block : Block) → members ≡ range_with_len 0 (length members) → block.first + block.count ≤ length members → range_with_len block.first block.count ≡ part block members
part-numbered members block are within =
    sym (ap (λ (l : List ℕ). take block.count (drop block.first l)) are ∙ part-range (length members) block.first block.count within)

-- the block of a number in range
pub block_at : (blocks : List Block) (k : ℕ) → k < length blocks → (block : Block) × (slice_get blocks k ≡ Some block)
block_at [] k lt = absurd (omega (arith, lt))
block_at (block ∷ blocks) zero lt = (block, refl)
block_at (block ∷ blocks) (suc k) lt = block_at blocks k (omega (arith, lt))

range_below : (n : ℕ) → All (λ i. i < n) (range_with_len 0 n)
range_below n k d lt =
    let size = length-range_with_len 0 n in
    let here : get_or (range_with_len 0 n) k d ≡ 0 + k = get_or-range_with_len 0 n k d (omega (arith, lt, size)) in
    omega (arith, here, lt, size)

-- each member is a record's number
pub members_below : (b : List ℕ) (blocked : Blocked) → IsBlocks b blocked → All (λ i. i < record_count b) blocked.members
members_below b blocked are = All-permutation (λ i. i < record_count b) (range_with_len 0 (record_count b)) blocked.members are.members (range_below (record_count b))

-- each member of a block is a record's number
pub part_below : (b : List ℕ) (blocked : Blocked) (block : Block) (numbers : List ℕ) → IsBlocks b blocked → numbers ≡ part block blocked.members → All (λ i. i < record_count b) numbers
part_below b blocked block numbers are is =
    All-same (λ i. i < record_count b) numbers (part block blocked.members) is
    (All-take (λ i. i < record_count b) block.count (drop block.first blocked.members) (All-drop (λ i. i < record_count b) block.first blocked.members (members_below b blocked are)))
