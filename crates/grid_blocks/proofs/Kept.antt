-- What blocks keep of their places.
use Rattle.std.proofs.Common.{◌≡◌, ℕ, ◌+◌, ◌<◌, ◌≤◌, List, length, get_or, take, drop, map, sym, ◌∙◌, ap, subst, arith}
use Rattle.std.specs.Prelude.{slice_get, Option, Some, None, IfSome}
use Rattle.std.specs.List.{range_with_len, drop-map}
use Rattle.std.proofs.lemmas.List.{take-map}
use Rattle.std.proofs.lemmas.List.FromFn.{get_or-range_with_len, length-range_with_len}
use Rattle.grid_blocks.specs.declared.block.Block.{Block}
use Rattle.grid_blocks.specs.declared.copies.Copies.{Copies}
use Rattle.grid_blocks.specs.Blocks.{Copied, IsCut, IsCopied, part, members_of, copied_of}
use Rattle.grid_blocks.proofs.Cutting.{follow_within, follow_few, get_or-from_slice_get}

-- there are no more blocks than places
pub cut_few : (blocks : List Block) (places : ℕ) → IsCut blocks places → length blocks ≤ places
cut_few blocks places cut = let few : length blocks + 0 ≤ places = follow_few 0 blocks places cut.sizes cut.follow in omega (arith, few)

-- a block lies within the places
pub cut_within : (blocks : List Block) (places k : ℕ) (block : Block) → IsCut blocks places → k < length blocks → slice_get blocks k ≡ Some block → block.first + block.count ≤ places
cut_within blocks places k block cut lt is =
    let here : get_or blocks k block ≡ block = get_or-from_slice_get blocks k block block is in
    subst (λ (x : Block). x.first + x.count ≤ places) here (follow_within 0 blocks places cut.follow k block lt)

-- a block has 1 to 1024 places
pub cut_sizes : (blocks : List Block) (places k : ℕ) (block : Block) → IsCut blocks places → k < length blocks → slice_get blocks k ≡ Some block → (1 ≤ block.count) × (block.count ≤ 1024)
cut_sizes blocks places k block cut lt is =
    let here : get_or blocks k block ≡ block = get_or-from_slice_get blocks k block block is in
    subst (λ (x : Block). (1 ≤ x.count) × (x.count ≤ 1024)) here (cut.sizes k block lt)

-- without copies the record at a place is that of this number
pub member_is_place : (records place : ℕ) (copies : Option Copies) (members : List ℕ) → copies ≡ None → members_of records copies ≡ members → place < length members → place ≡ get_or members place 0
member_is_place records place copies members none is lt =
    let by_number : range_with_len 0 records ≡ members = sym (ap (members_of records) none) ∙ is in
    let long : length (range_with_len 0 records) ≡ records = length-range_with_len 0 records in
    let same : length (range_with_len 0 records) ≡ length members = ap length by_number in
    omega arith ∙ sym (get_or-range_with_len 0 records place 0 (omega (arith, lt, long, same))) ∙ ap (λ (l : List ℕ). get_or l place 0) by_number

-- a part of what a function makes of each item
pub part_map : {A B : Type 0} (f : A → B) (from : List A) (made : List B) (first count : ℕ) → made ≡ map f from → take count (drop first made) ≡ map f (take count (drop first from))
part_map f from made first count is =
    ap (λ l. take count (drop first l)) is ∙ ap (take count) (drop-map f first from) ∙ take-map f count (drop first from)

-- what blocks with copies say of them
pub copies_read : (b members : List ℕ) (copies : Option Copies) (copied : Option Copied) (these : Copies) (records : ℕ) → copies ≡ Some these → copied_of copies ≡ copied → members_of records copies ≡ members → IfSome copied (IsCopied b members)
    → IsCopied b these.numbers.items (record { points = these.points.items; withheld = these.withheld.items })
copies_read b members copies copied these records is view members_are h =
    let members_is : members ≡ these.numbers.items = sym members_are ∙ ap (members_of records) is in
    let copied_is : copied ≡ Some (record { points = these.points.items; withheld = these.withheld.items }) = sym view ∙ ap copied_of is in
    subst (λ (l : List ℕ). IsCopied b l (record { points = these.points.items; withheld = these.withheld.items })) members_is
    (subst (λ (o : Option Copied). IfSome o (IsCopied b members)) copied_is h)

-- a block's numbers
pub part_read : (blocks blocks_now : List Block) (members numbers : List ℕ) (k : ℕ) (here block : Block) (part_numbers : List ℕ) → blocks ≡ blocks_now → slice_get blocks k ≡ Some here → slice_get blocks_now k ≡ Some block
    → numbers ≡ members → part_numbers ≡ take here.count (drop here.first numbers) → part_numbers ≡ part block members
part_read blocks blocks_now members numbers k here block part_numbers same at at_now numbers_are is =
    let both : Some here ≡ Some block = sym at ∙ ap (λ (l : List Block). slice_get l k) same ∙ at_now in
    let one : here ≡ block = cc in
    is ∙ ap (λ (x : Block). take x.count (drop x.first numbers)) one ∙ ap (part block) numbers_are
