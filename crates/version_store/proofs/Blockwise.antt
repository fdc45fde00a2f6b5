-- Classes that are picked for one block's records after another's.
use Rattle.std.proofs.Common.{◌≡◌, ℕ, zero, suc, ◌+◌, ◌-◌, ◌<◌, ◌≤◌, true, false, List, [], ◌∷◌, length, get_or, take, drop, Some, inl, inr, refl, sym, ◌∙◌, ap, subst, arith, All}
use Rattle.std.specs.Prelude.{slice_get}
use Rattle.std.specs.List.{range_with_len}
use Rattle.std.proofs.lemmas.Bool.{cases_lt}
use Rattle.std.proofs.lemmas.List.{ext_get_or, get_or_default, get_or-take, get_or-drop, length-take, length-drop}
use Rattle.std.proofs.lemmas.List.Elements.{All-same, All-take, All-drop}
use Rattle.std.proofs.lemmas.List.FromFn.{length-range_with_len, get_or-range_with_len}
use Rattle.std.proofs.lemmas.List.Sorted.{All-permutation}
use Rattle.view_meaning.specs.Survey.{record_count, point_of}
use Rattle.view_meaning.specs.Classes.{in_box}
use Rattle.grid_blocks.specs.declared.block.Block.{Block}
use Rattle.grid_blocks.specs.Blocks.{Blocked, IsBlocks, part}
use Rattle.grid_blocks.proofs.Kept.{cut_within}
use Rattle.grid_blocks.proofs.Laws.{block_of, place_of, within_area}
use Rattle.grid_blocks.proofs.Once.{length-once, part-range}
use Rattle.class_pages.specs.Choosing.{Pick, chosen, IsChosen, IsEven, Leaves}
use Rattle.class_pages.proofs.Areas.{corner_in}
use Rattle.class_pages.proofs.Versions.{length-chosen, get_or-chosen}
use Rattle.version_store.specs.Underway.{ArePickedAt, after_at, IsUnderway, IsMadeOf, IsFurther}
use Rattle.version_store.proofs.Further.{made_left}

-- the block of a number in range
pub block_at : (blocks : List Block) (k : ℕ) → k < length blocks → (block : Block) × (slice_get blocks k ≡ Some block)
block_at [] k lt = absurd (omega (arith, lt))
block_at (block ∷ blocks) zero lt = (block, refl)
block_at (block ∷ blocks) (suc k) lt = block_at blocks k (omega (arith, lt))

block_lt : (blocks : List Block) (k : ℕ) (block : Block) → slice_get blocks k ≡ Some block → k < length blocks
block_lt [] k block is = absurd cc
block_lt (x ∷ blocks) zero block is = omega arith
block_lt (x ∷ blocks) (suc k) block is = let rest : k < length blocks = block_lt blocks k block is in omega (arith, rest)

-- a number has one block
pub same_block : (blocks : List Block) (k : ℕ) (x y : Block) → slice_get blocks k ≡ Some x → slice_get blocks k ≡ Some y → x ≡ y
same_block blocks k x y one two =
    let both : Some x ≡ Some y = sym one ∙ two in
    cc

-- each member is a record's number
pub all_below : (b : List ℕ) (blocked : Blocked) → IsBlocks b blocked → All (λ i. i < record_count b) blocked.members
all_below b blocked are = All-permutation (λ i. i < record_count b) (range_with_len 0 (record_count b)) blocked.members are.members (range_below (record_count b))
  where
    range_below : (n : ℕ) → All (λ i. i < n) (range_with_len 0 n)
    range_below n k d lt =
        let size = length-range_with_len 0 n in
        let here : get_or (range_with_len 0 n) k d ≡ 0 + k = get_or-range_with_len 0 n k d (omega (arith, lt, size)) in
        omega (arith, here, lt, size)

-- what holds of each member holds of those of a block
pub all_part : (P : ℕ → Type 0) (members numbers : List ℕ) (block : Block) → numbers ≡ part block members → All P members → All P numbers
all_part P members numbers block is h = All-same P numbers (part block members) is (All-take P block.count (drop block.first members) (All-drop P block.first members h))

-- each member of a block is a record's number
pub members_below : (b : List ℕ) (blocked : Blocked) (block : Block) (numbers : List ℕ) → IsBlocks b blocked → numbers ≡ part block blocked.members → All (λ i. i < record_count b) numbers
members_below b blocked block numbers are is = all_part (λ i. i < record_count b) blocked.members numbers block is (all_below b blocked are)

-- the member at a place of a block
member_at : (members : List ℕ) (block : Block) (j d : ℕ) → j < length (part block members) → get_or (part block members) j d ≡ get_or members (block.first + j) 0
member_at members block j d lt =
    let few : j < block.count = let long = length-take block.count (drop block.first members) in omega (arith, lt, long) in
    get_or_default (part block members) j d 0 lt ∙ get_or-take block.count (drop block.first members) j 0 few ∙ get_or-drop block.first members j 0

-- each member of a block lies in the block's box
members_within : (b : List ℕ) (blocked : Blocked) (k : ℕ) (block : Block) → IsBlocks b blocked → slice_get blocked.blocks k ≡ Some block → All (λ i. in_box block.area (point_of b i) ≡ true) (part block blocked.members)
members_within b blocked k block are is = λ j d lt.
    let few : j < block.count = let long = length-take block.count (drop block.first blocked.members) in omega (arith, lt, long) in
    subst (λ (i : ℕ). in_box block.area (point_of b i) ≡ true) (sym (member_at blocked.members block j d lt))
    (within_area b blocked k (block.first + j) block are is (omega arith) (omega (arith, few)))

-- where the same is picked in a block's box, it is picked for each member as at the box's least corner
pub members_alike : (b : List ℕ) (blocked : Blocked) (k : ℕ) (block : Block) (pick : Pick) → IsBlocks b blocked → slice_get blocked.blocks k ≡ Some block → IsEven pick block.area
    → ArePickedAt b pick block.area.min (part block blocked.members)
members_alike b blocked k block pick are is even = λ j d lt class.
    let n = get_or (part block blocked.members) j d in
    let inside : in_box block.area (point_of b n) ≡ true = members_within b blocked k block are is j d lt in
    even block.area.min (point_of b n) class (corner_in block.area (point_of b n) inside) inside

-- a block that is passed over
pub further_left : (b : List ℕ) (pick : Pick) (old new : List ℕ) (blocked : Blocked) (k : ℕ) (block : Block) → IsBlocks b blocked → length new ≡ record_count b → slice_get blocked.blocks k ≡ Some block → Leaves pick block.area
    → IsUnderway b pick old new → IsFurther b pick old new new (part block blocked.members) 0
further_left b pick old new blocked k block are size is leaves h = record {
  underway = h;
  kept = λ i was. was;
  made = made_left b pick block.area old new (part block blocked.members) h
      (λ j d lt. let below : get_or (part block blocked.members) j d < record_count b = members_below b blocked block (part block blocked.members) are refl j d lt in omega (arith, below, size, h.size))
      leaves (members_within b blocked k block are is);
  count = omega arith;
}

-- the members of a block as their numbers
pub further_part : (b : List ℕ) (pick : Pick) (old mid new numbers : List ℕ) (blocked : Blocked) (block : Block) (changed : ℕ) → numbers ≡ part block blocked.members → IsFurther b pick old mid new numbers changed
    → IsFurther b pick old mid new (part block blocked.members) changed
further_part b pick old mid new numbers blocked block changed is h = subst (λ (l : List ℕ). IsFurther b pick old mid new l changed) is h

-- where the places are the numbers, a block's members are those from its first place on
pub part_numbered : (members : List ℕ) (block : Block) → members ≡ range_with_len 0 (length members) → block.first + block.count ≤ length members → range_with_len block.first block.count ≡ part block members
part_numbered members block are within =
    sym (ap (λ (l : List ℕ). take block.count (drop block.first l)) are ∙ part-range (length members) block.first block.count within)

-- of the first k blocks' members the classes are those that are picked
abbrev pub HasMadeBlocks : List ℕ → Pick → List ℕ → Blocked → ℕ → List ℕ → Type 0
HasMadeBlocks b pick old blocked k new = (m : ℕ) (block : Block) → m < k → slice_get blocked.blocks m ≡ Some block → IsMadeOf b pick old new (part block blocked.members)

pub blocks_none : (b : List ℕ) (pick : Pick) (old : List ℕ) (blocked : Blocked) (new : List ℕ) → HasMadeBlocks b pick old blocked 0 new
blocks_none b pick old blocked new = λ m block lt. absurd (omega (arith, lt))

-- one more block's
pub blocks_more : (b : List ℕ) (pick : Pick) (old : List ℕ) (blocked : Blocked) (k next : ℕ) (mid new : List ℕ) (block : Block) → next ≡ k + 1 → slice_get blocked.blocks k ≡ Some block
    → ((i : ℕ) → get_or mid i 0 ≡ after_at b old pick i → get_or new i 0 ≡ after_at b old pick i) → IsMadeOf b pick old new (part block blocked.members)
    → HasMadeBlocks b pick old blocked k mid → HasMadeBlocks b pick old blocked next new
blocks_more b pick old blocked k next mid new block more is kept made h = λ m other lt at. elim (cases_lt m k) [
  | inl earlier ↦ λ j d within. kept (get_or (part other blocked.members) j d) (h m other earlier at j d within)
  | inr last ↦
      let here : k ≡ m = omega (arith, lt, more, last) in
      let both : Some block ≡ Some other = sym is ∙ ap (slice_get blocked.blocks) here ∙ at in
      let same : block ≡ other = cc in
      subst (λ (x : Block). IsMadeOf b pick old new (part x blocked.members)) same made
]

-- a record's class, once all blocks' are made
made_at : (b : List ℕ) (pick : Pick) (old new : List ℕ) (blocked : Blocked) (k i : ℕ) → IsBlocks b blocked → k ≡ length blocked.blocks → HasMadeBlocks b pick old blocked k new → i < record_count b → get_or new i 0 ≡ after_at b old pick i
made_at b pick old new blocked k i are last h lt =
    let place = place_of b blocked i are lt in
    let found = block_of 0 blocked.blocks (record_count b) place.0 are.cut.follow (omega arith) place.1 in
    let block : Block = found.1 in
    let here : found.0 < length blocked.blocks = block_lt blocked.blocks found.0 block found.2 in
    let long : length blocked.members ≡ record_count b = length-once (record_count b) blocked.members are.members in
    let end : block.first + block.count ≤ record_count b = cut_within blocked.blocks (record_count b) found.0 block are.cut here found.2 in
    let dropped : length (drop block.first blocked.members) ≡ length blocked.members - block.first = length-drop block.first blocked.members in
    let taken = length-take block.count (drop block.first blocked.members) in
    let from : block.first ≤ place.0 = found.3 in
    let upto : place.0 < block.first + block.count = found.4 in
    let within : place.0 - block.first < length (part block blocked.members) = omega (arith, from, upto, long, end, dropped, taken) in
    let there : block.first + (place.0 - block.first) ≡ place.0 = omega (arith, from) in
    let is : get_or (part block blocked.members) (place.0 - block.first) 0 ≡ i = member_at blocked.members block (place.0 - block.first) 0 within ∙ ap (λ (m : ℕ). get_or blocked.members m 0) there ∙ place.2 in
    subst (λ (m : ℕ). get_or new m 0 ≡ after_at b old pick m) is (h found.0 block (omega (arith, here, last)) found.2 (place.0 - block.first) 0 within)

-- once all blocks' are made, the classes are those that are picked
pub made_is : (b : List ℕ) (pick : Pick) (old new : List ℕ) (blocked : Blocked) (k : ℕ) → IsBlocks b blocked → length old ≡ record_count b → k ≡ length blocked.blocks → IsUnderway b pick old new → HasMadeBlocks b pick old blocked k new → new ≡ chosen b pick old
made_is b pick old new blocked k are size last underway h =
    ext_get_or 0 new (chosen b pick old) (underway.size ∙ sym (length-chosen b pick old))
    (λ i lt. let within : i < length old = omega (arith, lt, underway.size) in
    made_at b pick old new blocked k i are last h (omega (arith, within, size)) ∙ sym (get_or-chosen b pick old i within))

-- before the first block nothing is made
pub underway_none : (b : List ℕ) (pick : Pick) (old new : List ℕ) → new ≡ old → IsUnderway b pick old new
underway_none b pick old new is = record { size = ap length is; each = λ i lt. inl (ap (λ (l : List ℕ). get_or l i 0) is) }
