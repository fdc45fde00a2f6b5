-- What words in order say of the blocks that are cut from them.
use Rattle.std.proofs.Common.{◌≡◌, ◌≢◌, ℕ, ◌+◌, ◌*◌, ◌/◌, ◌%◌, ◌^◌, ◌<◌, ◌≤◌, List, length, get_or, take, drop, map, inl, inr, sym, ◌∙◌, ap, subst, arith}
use Rattle.std.specs.Prelude.{◌⊎◌, IfSome, Option, Some, None, Bool}
use Rattle.std.specs.List.{All, AllPairs, range_with_len, drop-map}
use Rattle.std.specs.List.Sorted.{IsPermutation, IsSorted}
use Rattle.std.specs.Ordering.{nat_cmp}
use Rattle.std.proofs.lemmas.Bool.{cases_lt}
use Rattle.std.proofs.lemmas.List.{same_lists, length-map, get_or-map, get_or_default, take-map}
use Rattle.std.proofs.lemmas.List.FromFn.{length-range_with_len, get_or-range_with_len, get_or-map-range_with_len, length-map-range_with_len}
use Rattle.std.proofs.lemmas.List.Elements.{All-map}
use Rattle.std.proofs.lemmas.List.Sorted.{All-permutation, IsPermutation-map, IsPermutation-refl, length_permutation, IsNonDecreasingBy-from_sort}
use Rattle.view_base.specs.declared.place.Point.{Point}
use Rattle.view_base.specs.declared.place.Box3.{Box3}
use Rattle.view_meaning.specs.Survey.{record_count, point_of, withheld_of}
use Rattle.grid_blocks.specs.declared.block.Block.{Block}
use Rattle.grid_blocks.specs.LeastBox.{IsLeastBox}
use Rattle.grid_blocks.specs.Grid.{IsExponent, key}
use Rattle.grid_blocks.specs.Order.{IsOrder, word_of}
use Rattle.grid_blocks.specs.Cells.{IsRun, IsByCells, Precedes}
use Rattle.grid_blocks.specs.Blocks.{Blocked, Copied, IsCut, IsBlocks, IsCopied, part}
use Rattle.grid_blocks.proofs.Cutting.{follow_within}
use Rattle.grid_blocks.proofs.Once.{once-apart, part-range}

-- the number that a word has
abbrev pub number_of : ℕ → ℕ
number_of word = word % 2 ^ 26

number_of-word : (k i : ℕ) → i < 2 ^ 26 → (k * 2 ^ 26 + i) % 2 ^ 26 ≡ i
number_of-word k i small = omega arith

key_of-word : (k i : ℕ) → i < 2 ^ 26 → (k * 2 ^ 26 + i) / 2 ^ 26 ≡ k
key_of-word k i small = omega arith

-- a word has the number of a record, and above it its key
pub record IsWord (b : List ℕ) (area : Box3) (e word : ℕ) : Type 0 where
  pub below : number_of word < record_count b
  pub keyed : word / 2 ^ 26 ≡ key area e (point_of b (number_of word))

word_is : (b : List ℕ) (area : Box3) (e i : ℕ) → record_count b ≤ 2 ^ 26 → i < record_count b → IsWord b area e (word_of b area e i)
word_is b area e i few lt =
    let number : number_of (word_of b area e i) ≡ i = number_of-word (key area e (point_of b i)) i (omega arith) in
    record {
      below = omega (arith, number, lt);
      keyed = key_of-word (key area e (point_of b i)) i (omega arith) ∙ ap (λ (j : ℕ). key area e (point_of b j)) (sym number);
    }

pub words_are : (b words : List ℕ) (o : IsOrder b words) → record_count b ≤ 2 ^ 26 → All (IsWord b o.area o.exponent) words
words_are b words o few =
    All-permutation (IsWord b o.area o.exponent) (map (word_of b o.area o.exponent) (range_with_len 0 (record_count b))) words o.all
    (All-map (IsWord b o.area o.exponent) (word_of b o.area o.exponent) (range_with_len 0 (record_count b))
    (λ k d lt. let within : k < record_count b = let size : length (range_with_len 0 (record_count b)) ≡ record_count b = length-range_with_len 0 (record_count b) in omega (arith, lt, size) in
    word_is b o.area o.exponent (get_or (range_with_len 0 (record_count b)) k d) few
    (let is : get_or (range_with_len 0 (record_count b)) k d ≡ 0 + k = get_or-range_with_len 0 (record_count b) k d within in omega (arith, is, within))))

-- the numbers of the words are those of the records, each once
pub numbers-once : (b words : List ℕ) → record_count b ≤ 2 ^ 26 → IsOrder b words → IsPermutation (range_with_len 0 (record_count b)) (map number_of words)
numbers-once b words few o =
    let n = record_count b in
    let word = word_of b o.area o.exponent in
    let back : map number_of (map word (range_with_len 0 n)) ≡ range_with_len 0 n =
    same_lists _ _ (length-map (map word (range_with_len 0 n)) number_of ∙ length-map-range_with_len word 0 n ∙ sym (length-range_with_len 0 n))
    (λ k d lt. let within : k < n = let size = length-map (map word (range_with_len 0 n)) number_of in let long = length-map-range_with_len word 0 n in omega (arith, lt, size, long) in
    let in_words : k < length (map word (range_with_len 0 n)) = let long = length-map-range_with_len word 0 n in omega (arith, within, long) in
    get_or-map number_of (map word (range_with_len 0 n)) k 0 d in_words ∙ ap number_of (get_or-map-range_with_len word 0 n k k 0 within (omega arith))
    ∙ number_of-word (key o.area o.exponent (point_of b k)) k (omega arith) ∙ sym (get_or-range_with_len 0 n k d within ∙ omega arith)) in
    subst (λ (l : List ℕ). IsPermutation l (map number_of words)) back (IsPermutation-map number_of (map word (range_with_len 0 n)) words o.all)

-- as many words as records
pub length-order : (b words : List ℕ) → IsOrder b words → length words ≡ record_count b
length-order b words o = length_permutation _ words o.all ∙ length-map-range_with_len (word_of b o.area o.exponent) 0 (record_count b)

-- a word's key is that of the record at its place
keyed_at : (b words : List ℕ) (o : IsOrder b words) (place : ℕ) → record_count b ≤ 2 ^ 26 → place < length words → get_or words place 0 / 2 ^ 26 ≡ key o.area o.exponent (point_of b (get_or (map number_of words) place 0))
keyed_at b words o place few lt =
    (words_are b words o few place 0 lt).keyed ∙ ap (λ (j : ℕ). key o.area o.exponent (point_of b j)) (sym (get_or-map number_of words place 0 0 lt))

-- runs by one key are runs by another that agrees with it
run_agree : (f g : ℕ → ℕ) (n m : ℕ) (block : Block) → n ≡ m → ((p : ℕ) → p < n → f p ≡ g p) → 1 ≤ block.count → block.first + block.count ≤ n → IsRun f n block → IsRun g m block
run_agree f g n m block size same some within run = record {
  alone = λ place from upto. sym (same place (omega arith)) ∙ run.alone place from upto ∙ same block.first (omega arith);
  full = λ few more is. run.full few (omega arith) (same (block.first + block.count) (omega arith) ∙ is ∙ sym (same block.first (omega arith)));
}

ordered : (w v : ℕ) → w ≤ v → number_of w ≢ number_of v → (w / 2 ^ 26 < v / 2 ^ 26) ⊎ ((w / 2 ^ 26 ≡ v / 2 ^ 26) × (number_of w < number_of v))
ordered w v le other = elim (cases_lt (w / 2 ^ 26) (v / 2 ^ 26)) [
  | inl below ↦ inl below
  | inr least ↦ inr (omega arith, omega arith)
]

moved : (f : ℕ → ℕ) (i j k l m n : ℕ) → k ≡ f i → l ≡ f j → m ≡ i → n ≡ j → (k < l) ⊎ ((k ≡ l) × (m < n)) → Precedes f i j
moved f i j k l m n at_i at_j is_i is_j (inl below) = inl (omega (arith, at_i, at_j, below))
moved f i j k l m n at_i at_j is_i is_j (inr same) = inr (sym at_i ∙ same.0 ∙ at_j, omega (arith, is_i, is_j, same.1))

-- the word of a record, from the key of its point
pub word_made : (b : List ℕ) (area : Box3) (e i at r : ℕ) (p : Point) → p ≡ point_of b i → at ≡ key area e p → at < 2 ^ 18 → r ≡ i → at * 2 ^ 26 % 2 ^ 64 + r ≡ word_of b area e i
word_made b area e i at r p is keyed small same =
    let whole : at * 2 ^ 26 % 2 ^ 64 + r ≡ at * 2 ^ 26 + i = omega arith in
    whole ∙ ap (λ (k : ℕ). k * 2 ^ 26 + i) (keyed ∙ ap (key area e) is)

-- the words of all records, sorted
pub order_sorted : (b words sorted : List ℕ) (area : Box3) (e : ℕ) → IsLeastBox (map (point_of b) (range_with_len 0 (record_count b))) area → IsExponent area e
    → words ≡ map (word_of b area e) (range_with_len 0 (record_count b)) → IsPermutation words sorted → IsSorted nat_cmp sorted → IsOrder b sorted
order_sorted b words sorted area e box is_exponent made moved up = record {
  area = area;
  exponent = e;
  box = box;
  is_exponent = is_exponent;
  all = subst (λ (l : List ℕ). IsPermutation l sorted) made moved;
  rising = IsNonDecreasingBy-from_sort (λ x. x) sorted up;
}

-- the records in the order of their words
order_of : (b words : List ℕ) (o : IsOrder b words) → record_count b ≤ 2 ^ 26 → AllPairs (Precedes (λ i. key o.area o.exponent (point_of b i))) (map number_of words)
order_of b words o few = λ i j d below lt.
    let long : length (map number_of words) ≡ length words = length-map words number_of in
    let at_i : get_or (map number_of words) i d ≡ get_or (map number_of words) i 0 = get_or_default (map number_of words) i d 0 (omega (arith, below, lt)) in
    let at_j : get_or (map number_of words) j d ≡ get_or (map number_of words) j 0 = get_or_default (map number_of words) j d 0 lt in
    let is_i : get_or (map number_of words) i 0 ≡ number_of (get_or words i 0) = get_or-map number_of words i 0 0 (omega (arith, below, lt, long)) in
    let is_j : get_or (map number_of words) j 0 ≡ number_of (get_or words j 0) = get_or-map number_of words j 0 0 (omega (arith, lt, long)) in
    let key_of = λ (n : ℕ). key o.area o.exponent (point_of b n) in
    let apart : number_of (get_or words i 0) ≢ number_of (get_or words j 0) = λ same.
    once-apart (record_count b) (map number_of words) i j (numbers-once b words few o) below lt (is_i ∙ same ∙ sym is_j) in
    moved key_of (get_or (map number_of words) i d) (get_or (map number_of words) j d) (get_or words i 0 / 2 ^ 26) (get_or words j 0 / 2 ^ 26) (number_of (get_or words i 0)) (number_of (get_or words j 0))
    (keyed_at b words o i few (omega (arith, below, lt, long)) ∙ ap key_of (sym at_i)) (keyed_at b words o j few (omega (arith, lt, long)) ∙ ap key_of (sym at_j))
    (sym is_i ∙ sym at_i) (sym is_j ∙ sym at_j) (ordered (get_or words i 0) (get_or words j 0) (o.rising i j 0 (omega (arith, below)) (omega (arith, lt, long))) apart)

-- what `build` knows of its parts
pub record IsBuilt (b words : List ℕ) (blocked : Blocked) : Type 0 where
  pub order : IsOrder b words
  pub few : record_count b ≤ 2 ^ 26
  pub members : blocked.members ≡ map number_of words
  pub cut : IsCut blocked.blocks (length words)
  pub areas : All (λ block. IsLeastBox (part block (map (point_of b) blocked.members)) block.area) blocked.blocks
  pub runs : All (IsRun (λ place. get_or words place 0 / 2 ^ 26) (length words)) blocked.blocks

-- the points of a part are a part of the points
pub part_of_points : (b members : List ℕ) (block : Block) → part block (map (point_of b) members) ≡ map (point_of b) (part block members)
part_of_points b members block = ap (take block.count) (drop-map (point_of b) block.first members) ∙ take-map (point_of b) block.count (drop block.first members)

pub built_areas : (b members : List ℕ) (blocks : List Block) → All (λ block. IsLeastBox (part block (map (point_of b) members)) block.area) blocks → All (λ block. IsLeastBox (map (point_of b) (part block members)) block.area) blocks
built_areas b members blocks h = λ k d lt.
    subst (λ (l : List Point). IsLeastBox l (get_or blocks k d).area) (part_of_points b members (get_or blocks k d)) (h k d lt)

pub built_blocks : (b words : List ℕ) (blocked : Blocked) → IsBuilt b words blocked → IfSome blocked.copies (IsCopied b blocked.members) → IsBlocks b blocked
built_blocks b words blocked h copied = record {
  members = subst (λ (l : List ℕ). IsPermutation (range_with_len 0 (record_count b)) l) (sym h.members) (numbers-once b words h.few h.order);
  cut = subst (λ (n : ℕ). IsCut blocked.blocks n) (length-order b words h.order) h.cut;
  areas = built_areas b blocked.members blocked.blocks h.areas;
  copies = copied;
}

pub built_by_cells : (b words : List ℕ) (blocked : Blocked) → IsBuilt b words blocked → IsByCells b blocked
built_by_cells b words blocked h =
    let o = h.order in
    let long : length words ≡ length blocked.members = sym (ap length h.members ∙ length-map words number_of) in
    record {
      area = o.area;
      exponent = o.exponent;
      box = o.box;
      is_exponent = o.is_exponent;
      order = subst (λ (l : List ℕ). AllPairs (Precedes (λ i. key o.area o.exponent (point_of b i))) l) (sym h.members) (order_of b words o h.few);
      runs = λ k d lt. run_agree (λ place. get_or words place 0 / 2 ^ 26) (λ place. key o.area o.exponent (point_of b (get_or blocked.members place 0))) (length words) (length blocked.members)
          (get_or blocked.blocks k d) long
          (λ p within. keyed_at b words o p h.few within ∙ ap (λ (l : List ℕ). key o.area o.exponent (point_of b (get_or l p 0))) (sym h.members))
          (h.cut.sizes k d lt).0 (follow_within 0 blocked.blocks (length words) h.cut.follow k d lt) (h.runs k d lt);
    }

pub numbers_below : (b words : List ℕ) → record_count b ≤ 2 ^ 26 → IsOrder b words → All (λ word. word % 2 ^ 26 < record_count b) words
numbers_below b words few o = λ k d lt. (words_are b words o few k d lt).below

-- the parts of blocks by cells
pub built_of : (b words first_words cut_words : List ℕ) (points : List Point) (blocks : List Block) (blocked : Blocked) → IsOrder b words → record_count b ≤ 53687091 → first_words ≡ words → cut_words ≡ words → blocked.blocks ≡ blocks
    → blocked.members ≡ map number_of first_words → points ≡ map (point_of b) blocked.members → IsCut blocks (length cut_words) → All (λ block. IsLeastBox (part block points) block.area) blocks
    → All (IsRun (λ place. get_or cut_words place 0 / 2 ^ 26) (length cut_words)) blocks → IsBuilt b words blocked
built_of b words first_words cut_words points blocks blocked order few first_is cut_is blocks_are members_are points_are cut areas runs = record {
  order = order;
  few = omega (arith, few);
  members = members_are ∙ ap (map number_of) first_is;
  cut = subst (λ (l : List ℕ). IsCut blocked.blocks (length l)) cut_is (subst (λ (l : List Block). IsCut l (length cut_words)) (sym blocks_are) cut);
  areas = subst (λ (l : List Block). All (λ block. IsLeastBox (part block (map (point_of b) blocked.members)) block.area) l) (sym blocks_are)
      (subst (λ (l : List Point). All (λ block. IsLeastBox (part block l) block.area) blocks) points_are areas);
  runs = subst (λ (l : List ℕ). All (IsRun (λ place. get_or l place 0 / 2 ^ 26) (length l)) blocked.blocks) cut_is
      (subst (λ (l : List Block). All (IsRun (λ place. get_or cut_words place 0 / 2 ^ 26) (length cut_words)) l) (sym blocks_are) runs);
}

-- copies of the records at their places
pub copied : (b members : List ℕ) (copies : Option Copied) (points : List Point) (bits : List Bool) → copies ≡ Some (record { points = points; withheld = bits }) → points ≡ map (point_of b) members → bits ≡ map (withheld_of b) members → IfSome copies (IsCopied b members)
copied b members copies points bits is points_are bits_are =
    subst (λ (o : Option Copied). IfSome o (IsCopied b members)) (sym is) (record { points = points_are; withheld = bits_are })

-- blocks in the order of numbers
pub numbered : (b : List ℕ) (blocks : List Block) (blocked : Blocked) → blocked.blocks ≡ blocks → blocked.members ≡ range_with_len 0 (record_count b) → blocked.copies ≡ None → IsCut blocks (record_count b)
    → All (λ block. IsLeastBox (map (point_of b) (range_with_len block.first block.count)) block.area) blocks → IsBlocks b blocked
numbered b blocks blocked blocks_are members_are none cut areas =
    let n = record_count b in
    let cut_here : IsCut blocked.blocks n = subst (λ (l : List Block). IsCut l n) (sym blocks_are) cut in
    let areas_here : All (λ block. IsLeastBox (map (point_of b) (range_with_len block.first block.count)) block.area) blocked.blocks =
    subst (λ (l : List Block). All (λ block. IsLeastBox (map (point_of b) (range_with_len block.first block.count)) block.area) l) (sym blocks_are) areas in
    record {
      members = subst (λ (l : List ℕ). IsPermutation (range_with_len 0 n) l) (sym members_are) (IsPermutation-refl (range_with_len 0 n));
      cut = cut_here;
      areas = λ k d lt.
          let block : Block = get_or blocked.blocks k d in
          subst (λ (l : List ℕ). IsLeastBox (map (point_of b) l) block.area)
          (sym (ap (λ (l : List ℕ). part block l) members_are ∙ part-range n block.first block.count (follow_within 0 blocked.blocks n cut_here.follow k d lt))) (areas_here k d lt);
      copies = subst (λ (o : Option Copied). IfSome o (IsCopied b blocked.members)) (sym none) tt;
    }
