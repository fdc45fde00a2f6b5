-- The picture by the words of a frame.
use Rattle.std.proofs.Common.{◌≡◌, ℕ, ◌+◌, ◌*◌, ◌-◌, ◌^◌, ◌<◌, ◌≤◌, List, ◌++◌, length, get_or, Option, sym, ◌∙◌, ap, arith}
use Rattle.std.specs.List.{flat_map, range_with_len}
use Rattle.view_meaning.specs.Survey.{record_count}
use Rattle.view_meaning.specs.Picture.{View, shown, pixel, picture_row, picture, ppm_header}
use Rattle.view_meaning.specs.Frame.{record_in, word_colour, IsFrame}
use Rattle.view_meaning.proofs.Rows.{flat_map-same, flat_map-places, flat_map_rows}
use Rattle.view_meaning.proofs.Words.{record_in-nearest}

-- the colour of a frame's word is the pixel's
pub word_colour-pixel : (b cs : List ℕ) (view : View) (words : List ℕ) → view.camera.far < 2 ^ 32 - 1 → record_count b ≤ 2 ^ 32 → IsFrame b cs view words
    → (x y : ℕ) → x < view.camera.width → y < view.camera.height → pixel b cs view x y ≡ word_colour b cs view.colouring (get_or words (y * view.camera.width + x) 0)
unfolding pixel
word_colour-pixel b cs view words far few frame x y across down =
    sym (ap (λ (o : Option ℕ). shown b cs view.colouring o) (ap record_in (frame.each x y across down) ∙ record_in-nearest b cs view x y far few))

-- a header and the colours of a frame's words are the picture
pub picture-words : (b cs : List ℕ) (view : View) (words : List ℕ) → view.camera.far < 2 ^ 32 - 1 → record_count b ≤ 2 ^ 32 → IsFrame b cs view words
    → ppm_header view.camera.width view.camera.height ++ flat_map (word_colour b cs view.colouring) words ≡ picture b cs view
unfolding picture
picture-words b cs view words far few frame =
    let width = view.camera.width in
    let height = view.camera.height in
    let colour = λ (k : ℕ). word_colour b cs view.colouring (get_or words k 0) in
    let turned : length words ≡ height * width = frame.size ∙ grind arith in
    let rows : flat_map (picture_row b cs view) (range_with_len 0 height) ≡ flat_map (λ y. flat_map (λ x. colour (y * width + x)) (range_with_len 0 width)) (range_with_len 0 height) =
    flat_map-same (picture_row b cs view) (λ y. flat_map (λ x. colour (y * width + x)) (range_with_len 0 width)) 0 height
    (λ y low down. flat_map-same (λ x. pixel b cs view x y) (λ x. colour (y * width + x)) 0 width (λ x low across. word_colour-pixel b cs view words far few frame x y (omega (arith, across)) (omega (arith, down)))) in
    ap (λ l. ppm_header width height ++ l)
    (flat_map-places (word_colour b cs view.colouring) words 0 ∙ ap (λ (k : ℕ). flat_map colour (range_with_len 0 k)) turned ∙ sym (flat_map_rows colour width height) ∙ sym rows)
