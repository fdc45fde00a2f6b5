-- The bytes of a pixel in a picture, and the record that they show.
use Rattle.std.proofs.Common.{◌≡◌, ℕ, suc, ◌+◌, ◌-◌, ◌*◌, ◌<◌, List, ◌++◌, length, take, drop, append_assoc, sym, ◌∙◌, ap, subst, arith}
use Rattle.std.proofs.Math.Seq.{take-append_seam, drop-append_seam}
use Rattle.std.proofs.lemmas.List.{length-append}
use Rattle.std.proofs.lemmas.Grind.{flat_map-append}
use Rattle.std.specs.List.{flat_map, range_with_len}
use Rattle.view_meaning.specs.Picture.{View, nearest, pixel, picture_row, picture, ppm_header}
use Rattle.view_meaning.proofs.Law.{nearest_shows}
use Rattle.view_meaning.proofs.Rows.{range-append}
use Rattle.sessions.specs.Shown.{bytes_of_pixel, ShowsNearest}
use Rattle.sessions.proofs.Lengths.{length-pixel, length-flat_map_each}

-- a piece between others
piece_at : (before piece after : List ℕ) (at size : ℕ) → at ≡ length before → size ≡ length piece → take size (drop at (before ++ piece ++ after)) ≡ piece
piece_at before piece after at size start long =
    ap (λ (k : ℕ). take size (drop k (before ++ piece ++ after))) start
    ∙ ap (λ (l : List ℕ). take size (drop (length before) l)) (append_assoc before piece after)
    ∙ ap (take size) (drop-append_seam before (piece ++ after))
    ∙ ap (λ (k : ℕ). take k (piece ++ after)) long
    ∙ take-append_seam piece after

-- the pieces before one, that one, and the pieces after it
parted : (f : ℕ → List ℕ) (k n : ℕ) → k < n → flat_map f (range_with_len 0 n) ≡ flat_map f (range_with_len 0 k) ++ f k ++ flat_map f (range_with_len (k + 1) (n - k - 1))
parted f k n within =
    let all : n ≡ k + suc (n - k - 1) = omega (arith, within) in
    let here : 0 + k ≡ k = omega arith in
    ap (λ (m : ℕ). flat_map f (range_with_len 0 m)) all
    ∙ ap (flat_map f) (range-append 0 k (suc (n - k - 1)))
    ∙ flat_map-append f (range_with_len 0 k) (range_with_len (0 + k) (suc (n - k - 1)))
    ∙ ap (λ (m : ℕ). flat_map f (range_with_len 0 k) ++ (f m ++ flat_map f (range_with_len (m + 1) (n - k - 1)))) here
    ∙ sym (append_assoc (flat_map f (range_with_len 0 k)) (f k) (flat_map f (range_with_len (k + 1) (n - k - 1))))

regroup : (h a c p d e : List ℕ) → h ++ (a ++ (c ++ p ++ d) ++ e) ≡ (h ++ (a ++ c)) ++ p ++ (d ++ e)
regroup h a c p d e = simp append_assoc

-- the bytes of a pixel in a picture are the pixel's
pub bytes_of_pixel-picture : (b cs : List ℕ) (view : View) (x y : ℕ) → x < view.camera.width → y < view.camera.height → bytes_of_pixel view (picture b cs view) x y ≡ pixel b cs view x y
unfolding picture
bytes_of_pixel-picture b cs view x y across down =
    let width = view.camera.width in
    let height = view.camera.height in
    let header = ppm_header width height in
    let row = picture_row b cs view in
    let point = λ (x : ℕ). pixel b cs view x y in
    let above = flat_map row (range_with_len 0 y) in
    let below = flat_map row (range_with_len (y + 1) (height - y - 1)) in
    let left = flat_map point (range_with_len 0 x) in
    let right = flat_map point (range_with_len (x + 1) (width - x - 1)) in
    let whole : header ++ flat_map row (range_with_len 0 height) ≡ (header ++ (above ++ left)) ++ point x ++ (right ++ below) =
    ap (λ (l : List ℕ). header ++ l) (parted row y height down ∙ ap (λ (l : List ℕ). above ++ l ++ below) (parted point x width across)) ∙ regroup header above left (point x) right below in
    let rows : length above ≡ y * (width * 3) =
    length-flat_map_each row (width * 3) 0 y (λ y. length-flat_map_each (λ x. pixel b cs view x y) 3 0 width (λ x. length-pixel b cs view x y)) in
    let columns : length left ≡ x * 3 = length-flat_map_each point 3 0 x (λ x. length-pixel b cs view x y) in
    let turned : 3 * (y * width + x) ≡ y * (width * 3) + x * 3 = grind arith in
    let before : length (header ++ (above ++ left)) ≡ length header + (length above + length left) = length-append header (above ++ left) ∙ ap (λ (k : ℕ). length header + k) (length-append above left) in
    let start : length header + 3 * (y * width + x) ≡ length (header ++ (above ++ left)) = omega (arith, turned, before, rows, columns) in
    ap (λ (l : List ℕ). take 3 (drop (length header + 3 * (y * width + x)) l)) whole
    ∙ piece_at (header ++ (above ++ left)) (point x) (right ++ below) (length header + 3 * (y * width + x)) 3 start (sym (length-pixel b cs view x y))

-- a picture shows the nearest records
pub picture-shows_nearest : (b cs : List ℕ) (view : View) → ShowsNearest b cs view (picture b cs view)
unfolding pixel
picture-shows_nearest b cs view = record {
  each = λ x y across down. (nearest b cs view x y, (nearest_shows b cs view x y, bytes_of_pixel-picture b cs view x y across down));
}

-- what was appended to other bytes shows them
pub appended-shows_nearest : (b cs old new : List ℕ) (view : View) → new ≡ old ++ picture b cs view → ShowsNearest b cs view (drop (length old) new)
appended-shows_nearest b cs old new view made =
    let piece : drop (length old) new ≡ picture b cs view = ap (drop (length old)) made ∙ drop-append_seam old (picture b cs view) in
    subst (λ (l : List ℕ). ShowsNearest b cs view l) (sym piece) (picture-shows_nearest b cs view)
