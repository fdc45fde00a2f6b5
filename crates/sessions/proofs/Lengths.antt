-- The length of a picture in bytes.
use Rattle.std.proofs.Common.{◌≡◌, ℕ, zero, suc, ◌+◌, ◌*◌, ◌/◌, min, List, length, length-append, Option, Some, None, refl, ◌∙◌, ap, arith}
use Rattle.std.specs.List.{flat_map, range_with_len}
use Rattle.view_base.specs.declared.colour.Colouring.{Colouring}
use Rattle.view_base.specs.declared.colour.Colouring.TheVariants.{Class, Rgb16, Rgb8, Intensity}
use Rattle.view_meaning.specs.Survey.{format_of, rgb_place}
use Rattle.view_meaning.specs.Picture.{View, colour, rgb_colour, nearest, shown, pixel, picture_row, picture, ppm_header}

length-rgb_colour : (rule : ℕ → ℕ) (b : List ℕ) (i : ℕ) (place : Option ℕ) → length (rgb_colour rule b i place) ≡ 3
length-rgb_colour rule b i None = refl
length-rgb_colour rule b i (Some place) = refl

length-colour : (b cs : List ℕ) (colouring : Colouring) (i : ℕ) → length (colour b cs colouring i) ≡ 3
unfolding colour
length-colour b cs Class i = refl
length-colour b cs Rgb16 i = length-rgb_colour (λ n. n / 256) b i (rgb_place (format_of b))
length-colour b cs Rgb8 i = length-rgb_colour (λ n. min n 255) b i (rgb_place (format_of b))
length-colour b cs Intensity i = refl

length-shown : (b cs : List ℕ) (colouring : Colouring) (o : Option ℕ) → length (shown b cs colouring o) ≡ 3
length-shown b cs colouring None = refl
length-shown b cs colouring (Some i) = length-colour b cs colouring i

-- a pixel has three bytes
pub length-pixel : (b cs : List ℕ) (view : View) (x y : ℕ) → length (pixel b cs view x y) ≡ 3
unfolding pixel
length-pixel b cs view x y = length-shown b cs view.colouring (nearest b cs view x y)

-- pieces of one length
pub length-flat_map_each : (f : ℕ → List ℕ) (size a n : ℕ) → ((k : ℕ) → length (f k) ≡ size) → length (flat_map f (range_with_len a n)) ≡ n * size
length-flat_map_each f size a zero each = let none : 0 ≡ 0 * size = omega arith in none
length-flat_map_each f size a (suc n) each =
    let next : size + n * size ≡ suc n * size = grind arith in
    length-append (f a) (flat_map f (range_with_len (a + 1) n)) ∙ ap (λ (k : ℕ). k + length (flat_map f (range_with_len (a + 1) n))) (each a)
    ∙ ap (λ (k : ℕ). size + k) (length-flat_map_each f size (a + 1) n each) ∙ next

-- a picture has its header and three bytes for each pixel
pub length-picture : (b cs : List ℕ) (view : View) → length (picture b cs view) ≡ length (ppm_header view.camera.width view.camera.height) + 3 * (view.camera.width * view.camera.height)
unfolding picture
length-picture b cs view =
    let width = view.camera.width in
    let height = view.camera.height in
    let rows : length (flat_map (picture_row b cs view) (range_with_len 0 height)) ≡ height * (width * 3) =
    length-flat_map_each (picture_row b cs view) (width * 3) 0 height (λ y. length-flat_map_each (λ x. pixel b cs view x y) 3 0 width (λ x. length-pixel b cs view x y)) in
    let turned : height * (width * 3) ≡ 3 * (width * height) = grind arith in
    length-append (ppm_header width height) (flat_map (picture_row b cs view) (range_with_len 0 height)) ∙ ap (λ (k : ℕ). length (ppm_header width height) + k) (rows ∙ turned)
