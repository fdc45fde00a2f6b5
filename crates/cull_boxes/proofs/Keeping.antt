-- Numbers picked from a list in rising order, one more at a time.
use Rattle.std.proofs.Common.{◌≡◌, ◌↔◌, ℕ, zero, suc, ◌+◌, ◌<◌, List, [], ◌∷◌, ◌++◌, length, inl, inr, sym, subst, arith}
use Rattle.std.specs.Prelude.{slice_get, Some}
use Rattle.std.specs.List.{All, AllPairs, Any, Contains}
use Rattle.std.proofs.lemmas.Bool.{cases_lt}
use Rattle.std.proofs.lemmas.List.Elements.{All-contains, All-nil, All-push, All-weaker, Contains-append_left, Contains-push, Contains-push_cases}
use Rattle.std.proofs.lemmas.List.Quantifiers.{all_pairs_push}
use Rattle.view_base.specs.declared.place.Point.{Point}
use Rattle.view_meaning.specs.Camera.{Lens}
use Rattle.grid_blocks.specs.declared.block.Block.{Block}
use Rattle.int_camera.specs.declared.half_space.HalfSpace.{HalfSpace}
use Rattle.int_camera.specs.HalfSpaces.{IsInView, Meets, half_spaces}
use Rattle.cull_boxes.specs.Outside.{Excludes, IsOutside}
use Rattle.cull_boxes.specs.Kept.{HasEachInView, IsKept}
use Rattle.cull_boxes.proofs.Corners.{excludes-all}

-- the numbers of exactly those of the first blocks that meet a condition
pub record IsPicked (P : Block → Type 0) (blocks : List Block) (upto : ℕ) (picked : List ℕ) : Type 0 where
  pub rising : AllPairs (λ j k. j < k) picked
  pub within : All (λ k. k < upto) picked
  pub exactly : (k : ℕ) (block : Block) → k < upto → slice_get blocks k ≡ Some block → Contains picked k ↔ P block

pub picked_none : (P : Block → Type 0) (blocks : List Block) → IsPicked P blocks 0 []
picked_none P blocks = record {
  rising = λ i j d below lt. absurd (omega arith);
  within = All-nil (λ k. k < 0);
  exactly = λ k block lt is. absurd (omega arith);
}

wider : (upto : ℕ) (picked : List ℕ) → All (λ k. k < upto) picked → All (λ k. k < upto + 1) picked
wider upto picked all = All-weaker (λ k. k < upto) (λ k. k < upto + 1) (λ k lt. omega (arith, lt)) picked all

pub picked_more : (P : Block → Type 0) (blocks : List Block) (upto : ℕ) (picked : List ℕ) (block : Block) → IsPicked P blocks upto picked → slice_get blocks upto ≡ Some block → P block → IsPicked P blocks (upto + 1) (picked ++ upto ∷ [])
picked_more P blocks upto picked block h is meets = record {
  rising = all_pairs_push (λ j k. j < k) picked upto h.rising (λ k d lt. h.within k d lt);
  within = All-push (λ k. k < upto + 1) picked upto (wider upto picked h.within) (omega arith);
  exactly = λ k other lt at. elim (cases_lt k upto) [
    | inl below ↦ (
      (λ (has : Contains (picked ++ upto ∷ []) k). elim (Contains-push_cases picked upto k has) [
        | inl before ↦ (h.exactly k other below at).0 before
        | inr last ↦ absurd (omega (arith, below, last))
      ]),
      (λ (of_k : P other). Contains-append_left picked (upto ∷ []) k ((h.exactly k other below at).1 of_k)),
    )
    | inr least ↦
        let here : upto ≡ k = omega (arith, least, lt) in
        let same : block ≡ other = same_block k other here at in (
          (λ (has : Contains (picked ++ upto ∷ []) k). subst P same meets),
          (λ (of_k : P other). subst (Contains (picked ++ upto ∷ [])) here (Contains-push picked upto)),
        )
  ];
}
  where
    same_block : (k : ℕ) (other : Block) → upto ≡ k → slice_get blocks k ≡ Some other → block ≡ other
    same_block k other here at = cc

pub picked_skip : (P : Block → Type 0) (blocks : List Block) (upto : ℕ) (picked : List ℕ) (block : Block) → IsPicked P blocks upto picked → slice_get blocks upto ≡ Some block → ¬ P block → IsPicked P blocks (upto + 1) picked
picked_skip P blocks upto picked block h is fails = record {
  rising = h.rising;
  within = wider upto picked h.within;
  exactly = λ k other lt at. elim (cases_lt k upto) [
    | inl below ↦ h.exactly k other below at
    | inr least ↦
        let here : upto ≡ k = omega (arith, least, lt) in
        let same : block ≡ other = same_block k other here at in (
          (λ (has : Contains picked k).
              let below : k < upto = All-contains (λ k. k < upto) picked k h.within has in
              absurd (omega (arith, below, least))),
          (λ (of_k : P other). absurd (fails (subst P (sym same) of_k))),
        )
  ];
}
  where
    same_block : (k : ℕ) (other : Block) → upto ≡ k → slice_get blocks k ≡ Some other → block ≡ other
    same_block k other here at = cc

pub slice_get-lt : (blocks : List Block) (k : ℕ) (block : Block) → slice_get blocks k ≡ Some block → k < length blocks
slice_get-lt [] k block is = absurd cc
slice_get-lt (x ∷ blocks) zero block is = omega arith
slice_get-lt (x ∷ blocks) (suc k) block is = let rest : k < length blocks = slice_get-lt blocks k block is in omega (arith, rest)

-- those of all blocks, by a condition that is met where a block isn't outside
pub kept_all : (P : Block → Type 0) (lens : Lens) (blocks : List Block) (upto : ℕ) (kept : List ℕ) → upto ≡ length blocks → ((block : Block) → P block ↔ (¬ IsOutside lens block.area)) → IsPicked P blocks upto kept → IsKept lens blocks kept
kept_all P lens blocks upto kept all means h = record {
  rising = h.rising;
  below = subst (λ (n : ℕ). All (λ k. k < n) kept) all h.within;
  exactly = λ k block is.
      let lt : k < length blocks = slice_get-lt blocks k block is in
      let told : Contains kept k ↔ P block = h.exactly k block (omega (arith, lt, all)) is in (
        (λ (has : Contains kept k). (means block).0 (told.0 has)),
        (λ (not : ¬ IsOutside lens block.area). told.1 ((means block).1 not)),
      );
}

-- a block in whose box a point is in view is one of those that are not outside
pub kept_in_view : (lens : Lens) (blocks : List Block) (hs : List HalfSpace) (kept : List ℕ) → hs ≡ half_spaces lens → ((p : Point) → IsInView lens p ↔ All (λ h. Meets h p) hs) → IsKept lens blocks kept → HasEachInView lens blocks kept
kept_in_view lens blocks hs kept are sees h = λ k block p is within seen.
    (h.exactly k block is).1 (λ (outside : IsOutside lens block.area).
    excludes-all hs block.area p (subst (λ (gs : List HalfSpace). Any (λ g. Excludes g block.area) gs) (sym are) outside) within ((sees p).0 seen))
