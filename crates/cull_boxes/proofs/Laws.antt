-- What kept blocks mean for a survey's records: each record in view is in one of them.
use Rattle.std.proofs.Common.{◌≡◌, ℕ, ◌+◌, ◌-◌, ◌<◌, ◌≤◌, List, length, get_or, drop, ◌∙◌, ap, subst, arith}
use Rattle.std.specs.Prelude.{slice_get, Some, IsTrue}
use Rattle.std.specs.List.{Contains}
use Rattle.std.proofs.lemmas.List.{get_or-take, get_or-drop, length-take, length-drop}
use Rattle.std.proofs.lemmas.List.Elements.{Contains-get_or}
use Rattle.view_meaning.specs.Camera.{Lens}
use Rattle.view_meaning.specs.Classes.{in_box}
use Rattle.view_meaning.specs.Survey.{record_count, point_of}
use Rattle.grid_blocks.specs.declared.block.Block.{Block}
use Rattle.grid_blocks.specs.Blocks.{Blocked, IsBlocks, part}
use Rattle.grid_blocks.proofs.Kept.{cut_within}
use Rattle.grid_blocks.proofs.Laws.{block_of, place_of, within_area}
use Rattle.grid_blocks.proofs.Once.{length-once}
use Rattle.int_camera.specs.HalfSpaces.{IsInView}
use Rattle.cull_boxes.specs.Kept.{HasEachInView}
use Rattle.cull_boxes.proofs.Keeping.{slice_get-lt}

-- each record in view stands at some place of a kept block
pub kept_place : (b : List ℕ) (lens : Lens) (blocked : Blocked) (kept : List ℕ) (i : ℕ) → IsBlocks b blocked → HasEachInView lens blocked.blocks kept → i < record_count b → IsInView lens (point_of b i)
    → (k : ℕ) × (block : Block) × (place : ℕ) × Contains kept k × (slice_get blocked.blocks k ≡ Some block) × (block.first ≤ place) × (place < block.first + block.count) × (get_or blocked.members place 0 ≡ i)
kept_place b lens blocked kept i are has lt seen =
    let place = place_of b blocked i are lt in
    let block = block_of 0 blocked.blocks (record_count b) place.0 are.cut.follow (omega arith) place.1 in
    let within = within_area b blocked block.0 place.0 block.1 are block.2 block.3 block.4 in
    let inside : IsTrue (in_box block.1.area (point_of b i)) = subst (λ (j : ℕ). IsTrue (in_box block.1.area (point_of b j))) place.2 within in
    (block.0, block.1, place.0, has block.0 block.1 (point_of b i) block.2 inside seen, block.2, block.3, block.4, place.2)

-- each record in view is a member of a kept block
pub kept_member : (b : List ℕ) (lens : Lens) (blocked : Blocked) (kept : List ℕ) (i : ℕ) → IsBlocks b blocked → HasEachInView lens blocked.blocks kept → i < record_count b → IsInView lens (point_of b i)
    → (k : ℕ) × (block : Block) × Contains kept k × (slice_get blocked.blocks k ≡ Some block) × Contains (part block blocked.members) i
kept_member b lens blocked kept i are has lt seen =
    let here = kept_place b lens blocked kept i are has lt seen in
    let block : Block = here.1 in
    let place : ℕ = here.2 in
    let from : block.first ≤ place = here.5 in
    let upto : place < block.first + block.count = here.6 in
    let long : length blocked.members ≡ record_count b = length-once (record_count b) blocked.members are.members in
    let end : block.first + block.count ≤ record_count b = cut_within blocked.blocks (record_count b) here.0 block are.cut (slice_get-lt blocked.blocks here.0 block here.4) here.4 in
    let dropped : length (drop block.first blocked.members) ≡ length blocked.members - block.first = length-drop block.first blocked.members in
    let taken = length-take block.count (drop block.first blocked.members) in
    let in_count : place - block.first < block.count = omega (arith, from, upto) in
    let in_part : place - block.first < length (part block blocked.members) = omega (arith, from, upto, long, end, dropped, taken) in
    let there : get_or (part block blocked.members) (place - block.first) 0 ≡ i =
    get_or-take block.count (drop block.first blocked.members) (place - block.first) 0 in_count ∙ get_or-drop block.first blocked.members (place - block.first) 0
    ∙ ap (λ (n : ℕ). get_or blocked.members n 0) (omega (arith, from)) ∙ here.7 in
    (here.0, block, here.3, here.4, subst (Contains (part block blocked.members)) there (Contains-get_or (part block blocked.members) (place - block.first) 0 in_part))
