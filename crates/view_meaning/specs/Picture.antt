-- The picture of a survey: each pixel shows the nearest record that falls on it.
use Rattle.std.specs.Prelude.{◌≡◌, ℕ, ◌+◌, ◌*◌, ◌/◌, ◌%◌, ◌<◌, ◌≤◌, ◌⊎◌, ◌==◌, ◌&&◌, nat_lt, min, if◌then◌else◌, Bool, true, false, IsTrue, List, [], ◌∷◌, ◌++◌, filter, codes, slice_index, Option, Some, None, is_some}
use Rattle.std.specs.List.{range_with_len, flat_map}
use Rattle.std.specs.Fmt.{decimal}
use Rattle.view_base.specs.declared.colour.Rgb.{Rgb}
use Rattle.view_base.specs.declared.colour.Colouring as colouring
use Rattle.view_base.specs.declared.colour.Colouring.TheVariants.{Class, Rgb16, Rgb8, Intensity}
use Rattle.view_meaning.specs.Survey.{record_count, format_of, point_of, record_at, rgb_place, rgb_at, intensity_of}
use Rattle.view_meaning.specs.Classes.{Filter, all_classes, passes}
use Rattle.view_meaning.specs.Camera.{Lens, Spot, spot}

-- what a picture is of: a camera, where the colours come from, and which records show
pub record View : Type 0 where
  pub camera : Lens
  pub colouring : colouring.Colouring
  pub filter : Filter

-- whether a spot is on the pixel of this column and row
abbrev pub is_at : ℕ → ℕ → Option Spot → Bool
is_at x y None = false
is_at x y (Some s) = s.column == x && s.row == y

-- whether record i passes the filter and falls on the pixel of this column and row
unfoldable pub is_candidate : List ℕ → List ℕ → View → ℕ → ℕ → ℕ → Bool
is_candidate b cs view x y i = passes b cs view.filter i && is_at x y (spot view.camera (point_of b i))

-- the records that pass the filter and fall on the pixel of this column and row, in rising order
unfoldable pub candidates : List ℕ → List ℕ → View → ℕ → ℕ → List ℕ
candidates b cs view x y = filter (is_candidate b cs view x y) (range_with_len 0 (record_count b))

-- the depth of a spot
abbrev pub spot_depth : Option Spot → ℕ
spot_depth None = 0
spot_depth (Some s) = s.depth

-- the depth of record i
unfoldable pub depth_of : List ℕ → View → ℕ → ℕ
depth_of b view i = spot_depth (spot view.camera (point_of b i))

-- a record, or another one that is strictly nearer
abbrev pub nearer : (ℕ → ℕ) → ℕ → Option ℕ → ℕ
nearer depth i None = i
nearer depth i (Some j) = if nat_lt (depth j) (depth i) then j else i

-- the nearest of a list of records, the earlier one where two are as near
abbrev pub nearest_of : (ℕ → ℕ) → List ℕ → Option ℕ
nearest_of depth [] = None
nearest_of depth (i ∷ is) = Some (nearer depth i (nearest_of depth is))

-- the record that shows in the pixel of this column and row, or none
unfoldable pub nearest : List ℕ → List ℕ → View → ℕ → ℕ → Option ℕ
nearest b cs view x y = nearest_of (depth_of b view) (candidates b cs view x y)

-- red, green and blue of a class
abbrev pub class_colour : ℕ → List ℕ
class_colour class = (67 * class + 64) % 256 ∷ (131 * class + 128) % 256 ∷ (29 * class + 192) % 256 ∷ []

-- three bytes of a record's RGB, each channel by a rule
abbrev pub channels : (ℕ → ℕ) → Rgb → List ℕ
channels rule rgb = rule rgb.red ∷ rule rgb.green ∷ rule rgb.blue ∷ []

-- the RGB of record i by a rule, black where its format has none
abbrev pub rgb_colour : (ℕ → ℕ) → List ℕ → ℕ → Option ℕ → List ℕ
rgb_colour rule b i None = 0 ∷ 0 ∷ 0 ∷ []
rgb_colour rule b i (Some place) = channels rule (rgb_at b (record_at b i + place))

-- three equal bytes
abbrev pub grey : ℕ → List ℕ
grey n = n ∷ n ∷ n ∷ []

-- whether records of a format have what a colouring shows: red, green and blue, where it shows them
abbrev pub can_colour : ℕ → colouring.Colouring → Bool
can_colour format Rgb16 = is_some (rgb_place format)
can_colour format Rgb8 = is_some (rgb_place format)
can_colour format _ = true

-- the three bytes that show record i, by each colouring
unfoldable pub colour : List ℕ → List ℕ → colouring.Colouring → ℕ → List ℕ
colour b cs Class i = class_colour (slice_index cs i)
colour b cs Rgb16 i = rgb_colour (λ n. n / 256) b i (rgb_place (format_of b))
colour b cs Rgb8 i = rgb_colour (λ n. min n 255) b i (rgb_place (format_of b))
colour b cs Intensity i = grey (intensity_of b i / 256)

-- the three bytes of a pixel that shows this record, or none: then they are black
abbrev pub shown : List ℕ → List ℕ → colouring.Colouring → Option ℕ → List ℕ
shown b cs colouring None = 0 ∷ 0 ∷ 0 ∷ []
shown b cs colouring (Some i) = colour b cs colouring i

-- the three bytes of the pixel of this column and row
unfoldable pub pixel : List ℕ → List ℕ → View → ℕ → ℕ → List ℕ
pixel b cs view x y = shown b cs view.colouring (nearest b cs view x y)

-- the header of a binary PPM of maxval 255 (Netpbm)
unfoldable pub ppm_header : ℕ → ℕ → List ℕ
ppm_header width height = codes "P6\n" ++ decimal width ++ codes " " ++ decimal height ++ codes "\n255\n"

-- the pixels of a row from the left
abbrev pub picture_row : List ℕ → List ℕ → View → ℕ → List ℕ
picture_row b cs view y = flat_map (λ x. pixel b cs view x y) (range_with_len 0 view.camera.width)

-- the picture of a survey under these classes: the header, and the rows from the top
unfoldable pub picture : List ℕ → List ℕ → View → List ℕ
picture b cs view = ppm_header view.camera.width view.camera.height ++ flat_map (picture_row b cs view) (range_with_len 0 view.camera.height)

-- record i is the nearest of a pixel: a candidate, and each candidate is deeper, or as deep and no lower
-- in number
pub record IsNearest (b cs : List ℕ) (view : View) (x y i : ℕ) : Type 0 where
  pub counts : i < record_count b
  pub falls : IsTrue (is_candidate b cs view x y i)
  pub least : (j : ℕ) → j < record_count b → IsTrue (is_candidate b cs view x y j)
      → (depth_of b view i < depth_of b view j) ⊎ ((depth_of b view i ≡ depth_of b view j) × (i ≤ j))

-- no record passes and falls on a pixel
abbrev pub NoneShows : List ℕ → List ℕ → View → ℕ → ℕ → Type 0
NoneShows b cs view x y = (j : ℕ) → j < record_count b → IsTrue (is_candidate b cs view x y j) → ⊥

-- a pixel shows its nearest record, or none where none falls on it
abbrev pub Shows : List ℕ → List ℕ → View → ℕ → ℕ → Option ℕ → Type 0
Shows b cs view x y None = NoneShows b cs view x y
Shows b cs view x y (Some i) = IsNearest b cs view x y i

-- the view of all records by class
abbrev pub by_class : Lens → View
by_class lens = record { camera = lens; colouring = Class; filter = record { classes = all_classes; hide_withheld = false } }
