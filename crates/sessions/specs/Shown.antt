-- What a picture's bytes show.
use Rattle.std.specs.Prelude.{◌≡◌, ℕ, ◌+◌, ◌*◌, ◌<◌, List, length, take, drop, Option}
use Rattle.view_meaning.specs.Picture.{View, Shows, shown, ppm_header}

-- the three bytes of the pixel of this column and row in a picture's bytes
abbrev pub bytes_of_pixel : View → List ℕ → ℕ → ℕ → List ℕ
bytes_of_pixel view bytes x y =
    take 3 (drop (length (ppm_header view.camera.width view.camera.height) + 3 * (y * view.camera.width + x)) bytes)

-- each pixel of a picture's bytes is that of the nearest record: one that passes and falls on the pixel,
-- where none that does is nearer, or as near with a lower number; it is black where none does
pub record ShowsNearest (b cs : List ℕ) (view : View) (bytes : List ℕ) : Type 0 where
  pub each : (x y : ℕ) → x < view.camera.width → y < view.camera.height
      → (o : Option ℕ) × (Shows b cs view x y o × (bytes_of_pixel view bytes x y ≡ shown b cs view.colouring o))
