-- A frame after one more record.
use Rattle.std.proofs.Common.{◌≡◌, ℕ, suc, ◌+◌, ◌*◌, ◌-◌, ◌^◌, ◌<◌, min, List, length, set, get_or, replicate, Option, Some, None, Bool, true, false, ◌==◌, ◌&&◌, if◌then◌else◌, refl, sym, ◌∙◌, ap, subst, arith}
use Rattle.std.proofs.lemmas.Bool.Decides.{nat_tests}
use Rattle.std.proofs.lemmas.List.{length-set, length-replicate, get_or-replicate, get_or-set_same, get_or-set_other}
use Rattle.view_meaning.specs.Survey.{record_count, point_of}
use Rattle.view_meaning.specs.Classes.{passes}
use Rattle.view_meaning.specs.Camera.{Spot, spot, pixel_of}
use Rattle.view_meaning.specs.Picture.{View, is_at, is_candidate, candidates, depth_of, spot_depth, nearest}
use Rattle.view_meaning.specs.Frame.{word_of, IsFrame}
use Rattle.view_meaning.proofs.Nearest.{best, or_later, best-more, best_below, word_of-more}
use Rattle.view_meaning.proofs.Rows.{same_place, place_below}
use Rattle.view_meaning.proofs.Spots.{IsWithin, spot_within}
use Rattle.view_meaning.proofs.Words.{depth_of_within}

-- the record that shows in a pixel among the records below n
unfoldable pub nearest_below : ℕ → List ℕ → List ℕ → View → ℕ → ℕ → Option ℕ
nearest_below n b cs view x y = best (is_candidate b cs view x y) (depth_of b view) n

-- each pixel has the word of its nearest record among those below n
pub record IsFrameBelow (n : ℕ) (b cs : List ℕ) (view : View) (words : List ℕ) : Type 0 where
  pub size : length words ≡ view.camera.width * view.camera.height
  pub each : (x y : ℕ) → x < view.camera.width → y < view.camera.height
      → get_or words (y * view.camera.width + x) 0 ≡ word_of (depth_of b view) (nearest_below n b cs view x y)

-- before the first record all words are all ones
pub frame_begins : (b cs : List ℕ) (view : View) → IsFrameBelow 0 b cs view (replicate (view.camera.width * view.camera.height) (2 ^ 64 - 1))
unfolding nearest_below
frame_begins b cs view = record {
  size = length-replicate (view.camera.width * view.camera.height) (2 ^ 64 - 1);
  each = λ x y across down. get_or-replicate (view.camera.width * view.camera.height) (y * view.camera.width + x) (2 ^ 64 - 1) 0 (place_below x y view.camera.width view.camera.height across down);
}

-- after the last record each pixel has the word of its nearest
pub frame_ends : (b cs : List ℕ) (view : View) (words : List ℕ) → IsFrameBelow (record_count b) b cs view words → IsFrame b cs view words
unfolding nearest_below nearest candidates
frame_ends b cs view words frame = record { size = frame.size; each = frame.each }

-- the words with one of them lowered to this word, where it is less
abbrev pub lowered : List ℕ → ℕ → ℕ → List ℕ
lowered words at word = set words at (min (get_or words at 0) word)

-- a candidate lowers its pixel's word, and any other record leaves it
abbrev Lowers : ℕ → List ℕ → List ℕ → View → ℕ → ℕ → ℕ → ℕ → Type 0
Lowers n b cs view x y old new =
    new ≡ (if is_candidate b cs view x y n then min old (depth_of b view n * 2 ^ 32 + n) else old)

more_at : (n : ℕ) (b cs : List ℕ) (view : View) (x y old new : ℕ) → n < 2 ^ 32 → view.camera.far < 2 ^ 32 - 1 → Lowers n b cs view x y old new
    → old ≡ word_of (depth_of b view) (nearest_below n b cs view x y) → new ≡ word_of (depth_of b view) (nearest_below (suc n) b cs view x y)
unfolding nearest_below
more_at n b cs view x y old new few far lowers was =
    lowers ∙ pick (is_candidate b cs view x y n) ∙ sym (ap (word_of (depth_of b view)) (best-more (is_candidate b cs view x y) (depth_of b view) n))
  where
    pick : (c : Bool) → (if c then min old (depth_of b view n * 2 ^ 32 + n) else old)
        ≡ word_of (depth_of b view) (if c then or_later (depth_of b view) (best (is_candidate b cs view x y) (depth_of b view) n) n else best (is_candidate b cs view x y) (depth_of b view) n)
    pick true = ap (λ (k : ℕ). min k (depth_of b view n * 2 ^ 32 + n)) was ∙ sym (word_of-more (depth_of b view) (best (is_candidate b cs view x y) (depth_of b view) n) n (best_below (is_candidate b cs view x y) (depth_of b view) n) few (depth_of_within b view n far))
    pick false = was

and_false : (b : Bool) → (b && false) ≡ false
and_false true = refl
and_false false = refl

-- a record that falls nowhere leaves the frame as it was
pub frame_skips : (n : ℕ) (b cs : List ℕ) (view : View) (words : List ℕ) → n < 2 ^ 32 → view.camera.far < 2 ^ 32 - 1
    → spot view.camera (point_of b n) ≡ None → IsFrameBelow n b cs view words → IsFrameBelow (suc n) b cs view words
unfolding is_candidate
frame_skips n b cs view words few far nowhere frame = record {
  size = frame.size;
  each = λ x y across down.
      let no : is_candidate b cs view x y n ≡ false = ap (λ o. passes b cs view.filter n && is_at x y o) nowhere ∙ and_false (passes b cs view.filter n) in
      more_at n b cs view x y (get_or words (y * view.camera.width + x) 0) (get_or words (y * view.camera.width + x) 0) few far
      (sym (ap (λ (c : Bool). if c then min (get_or words (y * view.camera.width + x) 0) (depth_of b view n * 2 ^ 32 + n) else get_or words (y * view.camera.width + x) 0) no)) (frame.each x y across down);
}

lowered_same : (words : List ℕ) (at place word : ℕ) → place ≡ at → at < length words → get_or (lowered words at word) place 0 ≡ min (get_or words place 0) word
lowered_same words at place word same within =
    ap (λ (k : ℕ). get_or (lowered words at word) k 0) same ∙ get_or-set_same words at (min (get_or words at 0) word) 0 within ∙ ap (λ (k : ℕ). min (get_or words k 0) word) (sym same)

-- the word of the pixel of a column and row, after the word of another column and row's was lowered
lowered_at : (words : List ℕ) (x y c r width height word : ℕ) (hit : Bool) → (c == x && r == y) ≡ hit → length words ≡ width * height → x < width → y < height → c < width → r < height
    → get_or (lowered words (r * width + c) word) (y * width + x) 0 ≡ (if hit then min (get_or words (y * width + x) 0) word else get_or words (y * width + x) 0)
lowered_at words x y c r width height word true is size across down c_in r_in =
    let column : x ≡ c = grind (arith, nat_tests) in
    let row : y ≡ r = grind (arith, nat_tests) in
    let same : y * width + x ≡ r * width + c = ap (λ (k : ℕ). y * width + k) column ∙ ap (λ (k : ℕ). k * width + c) row in
    lowered_same words (r * width + c) (y * width + x) word same (subst (λ (k : ℕ). r * width + c < k) (sym size) (place_below c r width height c_in r_in))
lowered_at words x y c r width height word false is size across down c_in r_in =
    get_or-set_other words (r * width + c) (y * width + x) (min (get_or words (r * width + c) 0) word) 0
    (λ same. let place = same_place x y c r width across c_in same in missed (sym place.0) (sym place.1))
  where
    missed : c ≡ x → r ≡ y → ⊥
    missed column row = absurd (grind (arith, nat_tests))

-- a record that passes and falls on a spot lowers the word of its pixel
pub frame_lowers : (n : ℕ) (b cs : List ℕ) (view : View) (words : List ℕ) (s : Spot) → n < 2 ^ 32 → view.camera.far < 2 ^ 32 - 1
    → spot view.camera (point_of b n) ≡ Some s → passes b cs view.filter n ≡ true → IsFrameBelow n b cs view words
    → IsFrameBelow (suc n) b cs view (lowered words (pixel_of view.camera s) (s.depth * 2 ^ 32 + n))
unfolding is_candidate depth_of
frame_lowers n b cs view words s few far falls passing frame = record {
  size = length-set words (pixel_of view.camera s) (min (get_or words (pixel_of view.camera s) 0) (s.depth * 2 ^ 32 + n)) ∙ frame.size;
  each = λ x y across down.
      let within : IsWithin view.camera.width view.camera.height view.camera.far s = spot_within view.camera (point_of b n) s falls in
      let hits : is_candidate b cs view x y n ≡ (s.column == x && s.row == y) = ap (λ (c : Bool). c && is_at x y (spot view.camera (point_of b n))) passing ∙ ap (is_at x y) falls in
      let deep : depth_of b view n ≡ s.depth = ap spot_depth falls in
      let old = get_or words (y * view.camera.width + x) 0 in
      more_at n b cs view x y old (get_or (lowered words (pixel_of view.camera s) (s.depth * 2 ^ 32 + n)) (y * view.camera.width + x) 0) few far
      (lowered_at words x y s.column s.row view.camera.width view.camera.height (s.depth * 2 ^ 32 + n) (s.column == x && s.row == y) refl frame.size across down within.across within.down
      ∙ ap (λ (c : Bool). if c then min old (s.depth * 2 ^ 32 + n) else old) (sym hits)
      ∙ ap (λ (d : ℕ). if is_candidate b cs view x y n then min old (d * 2 ^ 32 + n) else old) (sym deep))
      (frame.each x y across down);
}
