-- The least values of the pairs of all kept blocks are the frame's words.
use Rattle.std.proofs.Common.{◌≡◌, ℕ, ◌+◌, ◌*◌, ◌/◌, ◌-◌, ◌^◌, ◌<◌, ◌≤◌, ◌==◌, ◌&&◌, ◌⊎◌, inl, inr, List, [], ◌∷◌, length, get_or, Option, Some, None, Bool, true, false, if◌then◌else◌, slice_index, refl, sym, subst, ◌∙◌, ap, arith}
use Rattle.std.proofs.lemmas.Bool.Decides.{nat_tests}
use Rattle.std.proofs.lemmas.List.{get_or_default}
use Rattle.std.proofs.lemmas.List.Elements.{All-contains}
use Rattle.std.specs.Prelude.{slice_get, is_some, EachIndex}
use Rattle.std.specs.Int.{div_ceil}
use Rattle.std.specs.List.{Contains, flat_map}
use Rattle.view_meaning.specs.Survey.{record_count, point_of}
use Rattle.view_meaning.specs.Classes.{Filter, passes}
use Rattle.view_meaning.specs.Camera.{Lens, Spot, spot, pixel_of}
use Rattle.view_meaning.specs.Picture.{View, Shows, is_at, is_candidate, nearest, depth_of, spot_depth}
use Rattle.view_meaning.specs.Frame.{word_of, IsFrame}
use Rattle.view_meaning.proofs.Law.{nearest_shows}
use Rattle.view_meaning.proofs.Rows.{same_place, place_below}
use Rattle.view_meaning.proofs.Spots.{spot_within}
use Rattle.view_meaning.proofs.Words.{depth_of_within}
use Rattle.grid_blocks.specs.declared.block.Block.{Block}
use Rattle.grid_blocks.specs.Blocks.{Blocked, IsBlocks, part}
use Rattle.cull_boxes.specs.Kept.{HasEachInView}
use Rattle.cull_boxes.proofs.Laws.{kept_member}
use Rattle.min_frame.specs.Least.{least}
use Rattle.min_frame.proofs.Leasts.{least-le}
use Rattle.splat_workers.specs.Drawing.{SamePairs, piece_blocks}
use Rattle.splat_workers.specs.Pairs.{pair_at, pair_of, members_in, block_pairs}
use Rattle.splat_workers.proofs.Blocks.{block_pairs-part, part_below}
use Rattle.splat_workers.proofs.Pieces.{kept-piece}
use Rattle.splat_workers.proofs.Least.{least-at_most, least-at_least, contains-flat_map, flat_map-contains}

-- a pair of record i: the record passes, and is on a spot with this pixel and depth
record IsPairOf (b cs : List ℕ) (lens : Lens) (filter : Filter) (i : ℕ) (p : ℕ × ℕ) : Type 0 where
  spot_is : Spot
  passing : passes b cs filter i ≡ true
  falls : spot lens (point_of b i) ≡ Some spot_is
  pair : p ≡ (pixel_of lens spot_is, spot_is.depth * 2 ^ 32 + i)

only_one : {A : Type 0} (y x : A) → Contains (y ∷ []) x → x ≡ y
only_one y x (k, lt, is) = let first : k ≡ 0 = omega (arith, lt) in sym (subst (λ (n : ℕ). get_or (y ∷ []) n x ≡ x) first is)

pair_by : (b cs : List ℕ) (lens : Lens) (filter : Filter) (i : ℕ) (p : ℕ × ℕ) (c : Bool) (o : Option Spot) → passes b cs filter i ≡ c → spot lens (point_of b i) ≡ o
    → Contains (if c then pair_at lens i o else []) p → IsPairOf b cs lens filter i p
pair_by b cs lens filter i p true (Some s) passing falls has = record { spot_is = s; passing = passing; falls = falls; pair = only_one (pixel_of lens s, s.depth * 2 ^ 32 + i) p has }
pair_by b cs lens filter i p true None passing falls (k, lt, is) = absurd (omega (arith, lt))
pair_by b cs lens filter i p false o failing falls (k, lt, is) = absurd (omega (arith, lt))

pair_of-is : (b cs : List ℕ) (lens : Lens) (filter : Filter) (i : ℕ) (p : ℕ × ℕ) → Contains (pair_of b cs lens filter i) p → IsPairOf b cs lens filter i p
unfolding pair_of
pair_of-is b cs lens filter i p has = pair_by b cs lens filter i p (passes b cs filter i) (spot lens (point_of b i)) refl refl has

pair_of-has : (b cs : List ℕ) (lens : Lens) (filter : Filter) (i : ℕ) (s : Spot) → passes b cs filter i ≡ true → spot lens (point_of b i) ≡ Some s
    → Contains (pair_of b cs lens filter i) (pixel_of lens s, s.depth * 2 ^ 32 + i)
unfolding pair_of
pair_of-has b cs lens filter i s passing falls =
    subst (λ l. Contains l (pixel_of lens s, s.depth * 2 ^ 32 + i))
    (sym (ap (λ (c : Bool). if c then pair_at lens i (spot lens (point_of b i)) else []) passing ∙ ap (pair_at lens i) falls)) (0, omega arith, refl)

-- pairs of records, of each that passes and is in view
record HasPairs (b cs : List ℕ) (view : View) (plots : List (ℕ × ℕ)) : Type 0 where
  only : (p : ℕ × ℕ) → Contains plots p → (i : ℕ) × (i < record_count b) × IsPairOf b cs view.camera view.filter i p
  each : (i : ℕ) (s : Spot) → i < record_count b → passes b cs view.filter i ≡ true → spot view.camera (point_of b i) ≡ Some s → Contains plots (pixel_of view.camera s, s.depth * 2 ^ 32 + i)

member-below : (b : List ℕ) (blocked : Blocked) (o : Option Block) (i : ℕ) → IsBlocks b blocked → Contains (members_in blocked.members o) i → i < record_count b
member-below b blocked None i are (k, lt, is) = absurd (omega (arith, lt))
member-below b blocked (Some block) i are has = All-contains (λ n. n < record_count b) (part block blocked.members) i (part_below b blocked block (part block blocked.members) are refl) has

block_pairs-only : (b cs : List ℕ) (lens : Lens) (filter : Filter) (blocked : Blocked) (k : ℕ) (p : ℕ × ℕ) → IsBlocks b blocked → Contains (block_pairs b cs lens filter blocked k) p
    → (i : ℕ) × (i < record_count b) × IsPairOf b cs lens filter i p
unfolding block_pairs
block_pairs-only b cs lens filter blocked k p are has =
    let found = flat_map-contains (pair_of b cs lens filter) (members_in blocked.members (slice_get blocked.blocks k)) p has in
    (found.0, member-below b blocked (slice_get blocked.blocks k) found.0 are found.1, pair_of-is b cs lens filter found.0 p found.2)

in_view : (lens : Lens) (b : List ℕ) (i : ℕ) (s : Spot) → spot lens (point_of b i) ≡ Some s → is_some (spot lens (point_of b i)) ≡ true
in_view lens b i s falls = ap is_some falls

-- the pairs of all pieces are those of the records in view
all_kept : (b cs : List ℕ) (view : View) (blocked : Blocked) (kept claims : List ℕ) (step : ℕ) (plots : List (ℕ × ℕ)) → IsBlocks b blocked → HasEachInView view.camera blocked.blocks kept → 1 ≤ step
    → ((n : ℕ) → n < div_ceil (length kept) step → Contains claims n) → SamePairs plots (flat_map (λ n. flat_map (block_pairs b cs view.camera view.filter blocked) (piece_blocks kept step n)) claims) → HasPairs b cs view plots
all_kept b cs view blocked kept claims step plots are has some all same = record {
  only = λ p there.
      let piece = flat_map-contains (λ n. flat_map (block_pairs b cs view.camera view.filter blocked) (piece_blocks kept step n)) claims p ((same p).0 there) in
      let found = flat_map-contains (block_pairs b cs view.camera view.filter blocked) (piece_blocks kept step piece.0) p piece.2 in
      block_pairs-only b cs view.camera view.filter blocked found.0 p are found.2;
  each = λ i s lt passing falls.
      let found = kept_member b view.camera blocked kept i are has lt (in_view view.camera b i s falls) in
      let k : ℕ = found.0 in
      let block : Block = found.1 in
      let n : ℕ = found.2.0 in
      let within : n < length kept = found.2.1 in
      let at : slice_index kept n ≡ k = get_or_default kept n 0 k within ∙ found.2.2 in
      let p : ℕ × ℕ = (pixel_of view.camera s, s.depth * 2 ^ 32 + i) in
      let inside : Contains (flat_map (pair_of b cs view.camera view.filter) (part block blocked.members)) p =
      contains-flat_map (pair_of b cs view.camera view.filter) (part block blocked.members) i p found.4 (pair_of-has b cs view.camera view.filter i s passing falls) in
      let in_block : Contains (block_pairs b cs view.camera view.filter blocked (slice_index kept n)) p =
      subst (λ (m : ℕ). Contains (block_pairs b cs view.camera view.filter blocked m) p) (sym at)
      (subst (λ l. Contains l p) (block_pairs-part b cs view.camera view.filter blocked k block (part block blocked.members) found.3 refl) inside) in
      let piece = kept-piece kept step n some within in
      let in_piece = contains-flat_map (block_pairs b cs view.camera view.filter blocked) (piece_blocks kept step (n / step)) (slice_index kept n) p piece.1 in_block in
      (same p).1 (contains-flat_map (λ n. flat_map (block_pairs b cs view.camera view.filter blocked) (piece_blocks kept step n)) claims (n / step) p (all (n / step) piece.0) in_piece);
}

-- the record of a pair on a pixel is a candidate there, and its depth stands in the value
pair-candidate : (b cs : List ℕ) (view : View) (x y i v : ℕ) → x < view.camera.width → IsPairOf b cs view.camera view.filter i (y * view.camera.width + x, v)
    → (is_candidate b cs view x y i ≡ true) × (v ≡ depth_of b view i * 2 ^ 32 + i)
unfolding is_candidate depth_of
pair-candidate b cs view x y i v across of =
    let s : Spot = of.spot_is in
    let within = spot_within view.camera (point_of b i) s of.falls in
    let pixel : y * view.camera.width + x ≡ pixel_of view.camera s = ap (λ (p : ℕ × ℕ). p.0) of.pair in
    let value : v ≡ s.depth * 2 ^ 32 + i = ap (λ (p : ℕ × ℕ). p.1) of.pair in
    let place = same_place x y s.column s.row view.camera.width across within.across pixel in
    let here : is_at x y (Some s) ≡ true = let column : x ≡ s.column = place.0 in let row : y ≡ s.row = place.1 in grind (arith, nat_tests) in (
      ap (λ (c : Bool). c && is_at x y (spot view.camera (point_of b i))) of.passing ∙ ap (is_at x y) of.falls ∙ here,
      value ∙ ap (λ (o : Option Spot). spot_depth o * 2 ^ 32 + i) (sym of.falls),
    )

both : (a b : Bool) → (a && b) ≡ true → (a ≡ true) × (b ≡ true)
both true true is = (refl, refl)
both true false is = absurd cc
both false b is = absurd cc

spot_at_pixel : (lens : Lens) (x y i : ℕ) (o : Option Spot) → is_at x y o ≡ true → (s : Spot) × (o ≡ Some s) × (pixel_of lens s ≡ y * lens.width + x) × (spot_depth o ≡ s.depth)
spot_at_pixel lens x y i None is = absurd cc
spot_at_pixel lens x y i (Some s) is =
    let parts = both (s.column == x) (s.row == y) is in
    let column : s.column ≡ x = let test = parts.0 in grind (arith, nat_tests) in
    let row : s.row ≡ y = let test = parts.1 in grind (arith, nat_tests) in
    (s, refl, ap (λ (k : ℕ). k * lens.width + s.column) row ∙ ap (λ (k : ℕ). y * lens.width + k) column, refl)

-- a candidate's pair is plotted on its pixel
candidate-pair : (b cs : List ℕ) (view : View) (x y i : ℕ) (plots : List (ℕ × ℕ)) → HasPairs b cs view plots → i < record_count b → is_candidate b cs view x y i ≡ true
    → Contains plots (y * view.camera.width + x, depth_of b view i * 2 ^ 32 + i)
unfolding is_candidate depth_of
candidate-pair b cs view x y i plots pairs lt is =
    let parts = both (passes b cs view.filter i) (is_at x y (spot view.camera (point_of b i))) is in
    let at = spot_at_pixel view.camera x y i (spot view.camera (point_of b i)) parts.1 in
    let s : Spot = at.0 in
    subst (λ (p : ℕ × ℕ). Contains plots p) (ap (λ (k : ℕ). (k, s.depth * 2 ^ 32 + i)) at.2 ∙ ap (λ (d : ℕ). (y * view.camera.width + x, d * 2 ^ 32 + i)) (sym at.3)) (pairs.each i s lt parts.0 at.1)

-- no nearer value: the value of the nearest is at most that of another candidate
in_order : (d e i j : ℕ) → i < 2 ^ 32 → (d < e) ⊎ ((d ≡ e) × (i ≤ j)) → d * 2 ^ 32 + i ≤ e * 2 ^ 32 + j
in_order d e i j few (inl less) = omega (arith, less)
in_order d e i j few (inr same) = omega (arith, same.0, same.1)

least-word : (b cs : List ℕ) (view : View) (x y : ℕ) (plots : List (ℕ × ℕ)) (o : Option ℕ) → HasPairs b cs view plots → view.camera.far < 2 ^ 32 - 1 → record_count b ≤ 2 ^ 32
    → x < view.camera.width → Shows b cs view x y o → least plots (y * view.camera.width + x) ≡ word_of (depth_of b view) o
least-word b cs view x y plots None pairs far few across shows =
    let at = y * view.camera.width + x in
    let low : 2 ^ 64 - 1 ≤ least plots at = least-at_least plots at (2 ^ 64 - 1) (omega arith) (λ v has.
    let found = pairs.only (at, v) has in absurd (shows found.0 found.1 (pair-candidate b cs view x y found.0 v across found.2).0)) in
    omega (arith, low, least-le plots at)
least-word b cs view x y plots (Some i) pairs far few across shows =
    let at = y * view.camera.width + x in
    let word = depth_of b view i * 2 ^ 32 + i in
    let counts : i < record_count b = shows.counts in
    let deep : depth_of b view i < 2 ^ 32 - 1 = depth_of_within b view i far in
    let high : least plots at ≤ word = least-at_most plots at word (candidate-pair b cs view x y i plots pairs counts shows.falls) in
    let low : word ≤ least plots at = least-at_least plots at word (omega (arith, counts, few, deep)) (λ v has.
    let found = pairs.only (at, v) has in
    let here = pair-candidate b cs view x y found.0 v across found.2 in
    let value : v ≡ depth_of b view found.0 * 2 ^ 32 + found.0 = here.1 in
    let order = in_order (depth_of b view i) (depth_of b view found.0) i found.0 (omega (arith, counts, few)) (shows.least found.0 found.1 here.0) in
    omega (arith, value, order)) in
    omega (arith, high, low)

-- the words of a closed frame on which all pieces were drawn
pub words_of_pairs : (b cs : List ℕ) (view : View) (blocked : Blocked) (kept claims words : List ℕ) (step : ℕ) (plots : List (ℕ × ℕ)) → view.camera.far < 2 ^ 32 - 1 → record_count b ≤ 2 ^ 32
    → IsBlocks b blocked → HasEachInView view.camera blocked.blocks kept → 1 ≤ step → ((n : ℕ) → n < div_ceil (length kept) step → Contains claims n)
    → SamePairs plots (flat_map (λ n. flat_map (block_pairs b cs view.camera view.filter blocked) (piece_blocks kept step n)) claims)
    → length words ≡ view.camera.width * view.camera.height → EachIndex words (λ x. slice_index words x ≡ least plots x) → IsFrame b cs view words
words_of_pairs b cs view blocked kept claims words step plots far few are has some all same size each = record {
  size = size;
  each = λ x y across down.
      each (y * view.camera.width + x) (subst (λ (n : ℕ). y * view.camera.width + x < n) (sym size) (place_below x y view.camera.width view.camera.height across down))
      ∙ least-word b cs view x y plots (nearest b cs view x y) (all_kept b cs view blocked kept claims step plots are has some all same) far few across (nearest_shows b cs view x y);
}
