-- What blocks of a survey mean for its records: each is in one block, at one place, within the block's box.
use Rattle.std.proofs.Common.{◌≡◌, ◌≢◌, ℕ, zero, suc, ◌+◌, ◌-◌, ◌<◌, ◌≤◌, List, [], ◌∷◌, length, get_or, drop, map, inl, inr, refl, ◌∙◌, ap, subst, arith}
use Rattle.std.specs.Prelude.{slice_get, Some, IsTrue}
use Rattle.std.proofs.lemmas.Bool.{cases_lt}
use Rattle.std.proofs.lemmas.List.{get_or-map, get_or-take, get_or-drop, length-map, length-take, length-drop}
use Rattle.view_base.specs.declared.place.Point.{Point}
use Rattle.view_meaning.specs.Survey.{record_count, point_of}
use Rattle.view_meaning.specs.Classes.{in_box}
use Rattle.grid_blocks.specs.declared.block.Block.{Block}
use Rattle.grid_blocks.specs.LeastBox.{IsLeastBox}
use Rattle.grid_blocks.specs.Blocks.{Blocked, Follow, IsBlocks, part}
use Rattle.grid_blocks.proofs.Cutting.{get_or-from_slice_get}
use Rattle.grid_blocks.proofs.Kept.{cut_within}
use Rattle.grid_blocks.proofs.Once.{once-apart, once-found, length-once}

-- each record stands at some place
pub place_of : (b : List ℕ) (blocked : Blocked) (i : ℕ) → IsBlocks b blocked → i < record_count b → (place : ℕ) × (place < record_count b) × (get_or blocked.members place 0 ≡ i)
place_of b blocked i are lt =
    let found = once-found (record_count b) blocked.members i are.members lt in
    let long : length blocked.members ≡ record_count b = length-once (record_count b) blocked.members are.members in
    (found.0, (let here : found.0 < length blocked.members = found.1 in omega (arith, here, long)), found.2)

-- two places have different records
pub places_apart : (b : List ℕ) (blocked : Blocked) (p q : ℕ) → IsBlocks b blocked → p < q → q < record_count b → get_or blocked.members p 0 ≢ get_or blocked.members q 0
places_apart b blocked p q are below lt =
    let long : length blocked.members ≡ record_count b = length-once (record_count b) blocked.members are.members in
    once-apart (record_count b) blocked.members p q are.members below (omega (arith, lt, long))

-- each place is in some block
pub block_of : (at : ℕ) (blocks : List Block) (end place : ℕ) → Follow at blocks end → at ≤ place → place < end → (k : ℕ) × (block : Block) × (slice_get blocks k ≡ Some block) × (block.first ≤ place) × (place < block.first + block.count)
block_of at [] end place h from upto = absurd (omega (arith, h, from, upto))
block_of at (block ∷ blocks) end place h from upto = let begins : block.first ≡ at = h.0 in elim (cases_lt place (at + block.count)) [
  | inl below ↦ (0, block, refl, omega (arith, begins, from), omega (arith, begins, below))
  | inr least ↦ let rest = block_of (at + block.count) blocks end place h.1 (omega (arith, least)) upto in (suc rest.0, rest.1, rest.2, rest.3, rest.4)
]

follow_from : (at : ℕ) (blocks : List Block) (end k : ℕ) (block : Block) → Follow at blocks end → slice_get blocks k ≡ Some block → at ≤ block.first
follow_from at [] end k block h is = absurd cc
follow_from at (x ∷ blocks) end zero block h is =
    let same : x ≡ block = cc in
    let begins : x.first ≡ at = h.0 in
    subst (λ (y : Block). at ≤ y.first) same (omega (arith, begins))
follow_from at (x ∷ blocks) end (suc k) block h is = let rest : at + x.count ≤ block.first = follow_from (at + x.count) blocks end k block h.1 is in omega (arith, rest)

-- of two blocks the first one's places come before those of the other
pub blocks_apart : (at : ℕ) (blocks : List Block) (end k l : ℕ) (x y : Block) → Follow at blocks end → k < l → slice_get blocks k ≡ Some x → slice_get blocks l ≡ Some y → x.first + x.count ≤ y.first
blocks_apart at [] end k l x y h below at_k at_l = absurd cc
blocks_apart at (z ∷ blocks) end k zero x y h below at_k at_l = absurd (omega (arith, below))
blocks_apart at (z ∷ blocks) end zero (suc l) x y h below at_k at_l =
    let same : z ≡ x = cc in
    let begins : z.first ≡ at = h.0 in
    let rest : at + z.count ≤ y.first = follow_from (at + z.count) blocks end l y h.1 at_l in
    subst (λ (w : Block). w.first + w.count ≤ y.first) same (omega (arith, begins, rest))
blocks_apart at (z ∷ blocks) end (suc k) (suc l) x y h below at_k at_l = blocks_apart (at + z.count) blocks end k l x y h.1 (omega (arith, below)) at_k at_l

slice_get-lt : {A : Type 0} (items : List A) (k : ℕ) (item : A) → slice_get items k ≡ Some item → k < length items
slice_get-lt [] k item is = absurd cc
slice_get-lt (x ∷ items) zero item is = omega arith
slice_get-lt (x ∷ items) (suc k) item is = let rest : k < length items = slice_get-lt items k item is in omega (arith, rest)

-- the record at each place of a block lies in the block's box
pub within_area : (b : List ℕ) (blocked : Blocked) (k place : ℕ) (block : Block) → IsBlocks b blocked → slice_get blocked.blocks k ≡ Some block → block.first ≤ place → place < block.first + block.count
    → IsTrue (in_box block.area (point_of b (get_or blocked.members place 0)))
within_area b blocked k place block are is from upto =
    let lt : k < length blocked.blocks = slice_get-lt blocked.blocks k block is in
    let here : get_or blocked.blocks k block ≡ block = get_or-from_slice_get blocked.blocks k block block is in
    let least : IsLeastBox (map (point_of b) (part block blocked.members)) block.area =
    subst (λ (x : Block). IsLeastBox (map (point_of b) (part x blocked.members)) x.area) here (are.areas k block lt) in
    let long : length blocked.members ≡ record_count b = length-once (record_count b) blocked.members are.members in
    let end : block.first + block.count ≤ record_count b = cut_within blocked.blocks (record_count b) k block are.cut lt is in
    let dropped : length (drop block.first blocked.members) ≡ length blocked.members - block.first = length-drop block.first blocked.members in
    let taken = length-take block.count (drop block.first blocked.members) in
    let in_part : place - block.first < length (part block blocked.members) = omega (arith, from, upto, long, end, dropped, taken) in
    let p : Point = point_of b (get_or blocked.members place 0) in
    let there : get_or (map (point_of b) (part block blocked.members)) (place - block.first) p ≡ p =
    get_or-map (point_of b) (part block blocked.members) (place - block.first) 0 p in_part
    ∙ ap (point_of b) (get_or-take block.count (drop block.first blocked.members) (place - block.first) 0 (omega (arith, from, upto)) ∙ get_or-drop block.first blocked.members (place - block.first) 0
    ∙ ap (λ (n : ℕ). get_or blocked.members n 0) (omega (arith, from))) in
    let size = length-map (part block blocked.members) (point_of b) in
    subst (λ (q : Point). IsTrue (in_box block.area q)) there (least.within (place - block.first) p (omega (arith, in_part, size)))
