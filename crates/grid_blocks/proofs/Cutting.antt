-- Blocks that follow each other.
use Rattle.std.proofs.Common.{◌≡◌, ℕ, zero, suc, ◌+◌, ◌<◌, ◌≤◌, List, [], ◌∷◌, ◌++◌, length, get_or, Some, sym, ◌∙◌, arith}
use Rattle.std.specs.Prelude.{slice_get}
use Rattle.std.specs.List.{All}
use Rattle.std.proofs.lemmas.List.Elements.{All-head, All-tail}
use Rattle.grid_blocks.specs.declared.block.Block.{Block}
use Rattle.grid_blocks.specs.Blocks.{Follow}

-- one block more
pub follow_more : (at : ℕ) (blocks : List Block) (mid end : ℕ) (block : Block) → Follow at blocks mid → block.first ≡ mid → end ≡ mid + block.count → Follow at (blocks ++ block ∷ []) end
follow_more at [] mid end block here first last = (first ∙ sym here, omega (arith, here, last))
follow_more at (b ∷ blocks) mid end block h first last = (h.0, follow_more (at + b.count) blocks mid end block h.1 first last)

pub follow_upto : (at : ℕ) (blocks : List Block) (end : ℕ) → Follow at blocks end → at ≤ end
follow_upto at [] end h = omega (arith, h)
follow_upto at (b ∷ blocks) end h = let rest : at + b.count ≤ end = follow_upto (at + b.count) blocks end h.1 in omega (arith, rest)

-- each block lies within the places
pub follow_within : (at : ℕ) (blocks : List Block) (end : ℕ) → Follow at blocks end → (k : ℕ) (d : Block) → k < length blocks → (get_or blocks k d).first + (get_or blocks k d).count ≤ end
follow_within at [] end h k d lt = absurd (omega (arith, lt))
follow_within at (b ∷ blocks) end h zero d lt = let rest : at + b.count ≤ end = follow_upto (at + b.count) blocks end h.1 in let first : b.first ≡ at = h.0 in omega (arith, rest, first)
follow_within at (b ∷ blocks) end h (suc k) d lt = follow_within (at + b.count) blocks end h.1 k d (omega (arith, lt))

-- there are no more blocks than places
pub follow_few : (at : ℕ) (blocks : List Block) (end : ℕ) → All (λ block. (1 ≤ block.count) × (block.count ≤ 1024)) blocks → Follow at blocks end → length blocks + at ≤ end
follow_few at [] end sizes h = omega (arith, h)
follow_few at (b ∷ blocks) end sizes h =
    let some : (1 ≤ b.count) × (b.count ≤ 1024) = All-head (λ block. (1 ≤ block.count) × (block.count ≤ 1024)) b blocks sizes in
    let rest : length blocks + (at + b.count) ≤ end = follow_few (at + b.count) blocks end (All-tail (λ block. (1 ≤ block.count) × (block.count ≤ 1024)) b blocks sizes) h.1 in
    omega (arith, some.0, rest)

-- the item at a place, at any default
pub get_or-from_slice_get : {A : Type 0} (items : List A) (k : ℕ) (item d : A) → slice_get items k ≡ Some item → get_or items k d ≡ item
get_or-from_slice_get [] k item d is = cc
get_or-from_slice_get (x ∷ items) zero item d is = cc
get_or-from_slice_get (x ∷ items) (suc k) item d is = get_or-from_slice_get items k item d is
