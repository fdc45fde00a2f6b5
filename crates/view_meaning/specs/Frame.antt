-- A frame: one word for each pixel, row by row from the top left. The word packs the depth of the nearest
-- record above its number, so that the least word is the nearest record (Schütz et al. 2021).
use Rattle.std.specs.Prelude.{◌≡◌, ℕ, ◌+◌, ◌*◌, ◌-◌, ◌%◌, ◌^◌, ◌<◌, ◌==◌, if◌then◌else◌, List, length, slice_index, Option, Some, None}
use Rattle.view_base.specs.declared.colour.Colouring as colouring
use Rattle.view_meaning.specs.Picture.{View, Shows, nearest, depth_of, shown}

-- the word of a pixel that shows this record, or none: then it is all ones
abbrev pub word_of : (ℕ → ℕ) → Option ℕ → ℕ
word_of depth None = 2 ^ 64 - 1
word_of depth (Some i) = depth i * 2 ^ 32 + i

-- the record whose word this is, or none
abbrev pub record_in : ℕ → Option ℕ
record_in word = if word == 2 ^ 64 - 1 then None else Some (word % 2 ^ 32)

-- the three bytes of a pixel with this word
abbrev pub word_colour : List ℕ → List ℕ → colouring.Colouring → ℕ → List ℕ
word_colour b cs colouring word = shown b cs colouring (record_in word)

-- each pixel has the word of its nearest record
pub record IsFrame (b cs : List ℕ) (view : View) (words : List ℕ) : Type 0 where
  pub size : length words ≡ view.camera.width * view.camera.height
  pub each : (x y : ℕ) → x < view.camera.width → y < view.camera.height
      → slice_index words (y * view.camera.width + x) ≡ word_of (depth_of b view) (nearest b cs view x y)

-- each pixel's word names the record that shows there: none is nearer
abbrev pub NamesNearest : List ℕ → List ℕ → View → List ℕ → Type 0
NamesNearest b cs view words = (x y : ℕ) → x < view.camera.width → y < view.camera.height
    → Shows b cs view x y (record_in (slice_index words (y * view.camera.width + x)))
