-- Runs of words with one key.
use Rattle.std.proofs.Common.{◌≡◌, ◌≢◌, ℕ, ◌+◌, ◌-◌, ◌/◌, ◌^◌, ◌<◌, ◌≤◌, min, List, length, get_or, take, drop, inl, inr, sym, ◌∙◌, ap, arith}
use Rattle.std.proofs.lemmas.Bool.{cases_lt}
use Rattle.std.proofs.lemmas.List.{get_or-take, get_or-drop, length-take, length-drop}
use Rattle.grid_blocks.specs.declared.block.Block.{Block}
use Rattle.grid_blocks.specs.Cells.{IsRun}

-- the first n words have the first one's key
abbrev pub IsAlone : ℕ → List ℕ → Type 0
IsAlone n words = (k : ℕ) → k < n → get_or words k 0 / 2 ^ 26 ≡ get_or words 0 0 / 2 ^ 26

pub alone_one : (words : List ℕ) → IsAlone 1 words
alone_one words = λ k lt. let zeroth : k ≡ 0 = omega (arith, lt) in ap (λ (k : ℕ). get_or words k 0 / 2 ^ 26) zeroth

pub alone_more : (n : ℕ) (words : List ℕ) → get_or words n 0 / 2 ^ 26 ≡ get_or words 0 0 / 2 ^ 26 → IsAlone n words → IsAlone (n + 1) words
alone_more n words is h = λ k lt. elim (cases_lt k n) [
  | inl below ↦ h k below
  | inr least ↦ let same : k ≡ n = omega arith in ap (λ (k : ℕ). get_or words k 0 / 2 ^ 26) same ∙ is
]

-- a word of a part
part_word : (words : List ℕ) (first size k : ℕ) → k < size → get_or (take size (drop first words)) k 0 ≡ get_or words (first + k) 0
part_word words first size k lt = get_or-take size (drop first words) k 0 lt ∙ get_or-drop first words k 0

part_length : (words : List ℕ) (first size : ℕ) → size ≡ length words - first → length (take size (drop first words)) ≡ size
part_length words first size whole =
    let dropped : length (drop first words) ≡ length words - first = length-drop first words in
    let taken : length (take size (drop first words)) ≡ min size (length (drop first words)) = length-take size (drop first words) in
    omega (arith, whole, dropped, taken)

-- the run at a place is one of the words from there on
pub run_from_part : (words : List ℕ) (first size : ℕ) (block : Block) → block.first ≡ first → size ≡ length words - first → 1 ≤ block.count → block.count ≤ length (take size (drop first words)) → IsAlone block.count (take size (drop first words))
    → (block.count < 1024 → block.count < length (take size (drop first words)) → get_or (take size (drop first words)) block.count 0 / 2 ^ 26 ≢ get_or (take size (drop first words)) 0 0 / 2 ^ 26)
    → IsRun (λ place. get_or words place 0 / 2 ^ 26) (length words) block
run_from_part words first size block at whole some in_part alone full =
    let long : length (take size (drop first words)) ≡ size = part_length words first size whole in
    let fits : block.count ≤ size = omega (arith, in_part, long) in
    let begins : get_or (take size (drop first words)) 0 0 ≡ get_or words block.first 0 = part_word words first size 0 (omega arith) ∙ ap (λ (k : ℕ). get_or words k 0) (omega arith) in
    record {
      alone = λ place from upto.
          let here : first + (place - first) ≡ place = omega arith in
          ap (λ (k : ℕ). get_or words k 0 / 2 ^ 26) (sym here) ∙ ap (λ (w : ℕ). w / 2 ^ 26) (sym (part_word words first size (place - first) (omega arith)))
          ∙ alone (place - first) (omega arith) ∙ ap (λ (w : ℕ). w / 2 ^ 26) begins;
      full = λ few more same.
          let next : get_or (take size (drop first words)) block.count 0 ≡ get_or words (block.first + block.count) 0 =
          part_word words first size block.count (omega arith) ∙ ap (λ (k : ℕ). get_or words k 0) (omega arith) in
          full few (omega (arith, long)) (ap (λ (w : ℕ). w / 2 ^ 26) next ∙ same ∙ ap (λ (w : ℕ). w / 2 ^ 26) (sym begins));
    }
