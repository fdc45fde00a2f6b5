-- The words of a view, `KIND W H EX EY EZ RX RY RZ DX DY DZ FX FY FZ K T NEAR FAR COLOUR CLASSES WITHHELD`, of which
-- the last two are the words of a filter.
use Rattle.std.specs.Prelude.{ℕ, ◌+◌, ◌-◌, ◌==◌, ◌&&◌, nat_le, ℤ, pos, Bool, true, false, List, map, codes, Option, Some, None, is_some, unwrap_or, Result, Ok, Err, if◌then◌else◌}
use Rattle.std.specs.List.{range_with_len}
use Rattle.std.specs.Option.{option_map_or}
use Rattle.std.specs.Str.{bytes_eq}
use Rattle.view_base.specs.declared.colour.Colouring.{Colouring}
use Rattle.view_base.specs.declared.colour.Colouring.TheVariants.{Class, Rgb16, Rgb8, Intensity}
use Rattle.view_base.specs.Text.{number}
use Rattle.view_base.specs.Fitting.{word_at, misfit}
use Rattle.view_meaning.specs.Classes.{Filter, all_classes}
use Rattle.view_meaning.specs.Picture.{View}
use Rattle.class_bits.specs.ClassSet.{class_list}
use Rattle.int_camera.specs.declared.numbers.Kind.{Kind}
use Rattle.int_camera.specs.declared.numbers.Kind.TheVariants.{Ortho, Persp}
use Rattle.int_camera.specs.Limits.{first_outside, lens_of, projection_of}
use Rattle.view_text.specs.declared.fault.TextFault.{TextFault}
use Rattle.view_text.specs.declared.fault.TextFault.TheVariants.{Line, Limit}

-- the kind of camera that a word names, or none
unfoldable pub kind : List ℕ → Option Kind
kind word = if bytes_eq word (codes "ortho") then Some Ortho else if bytes_eq word (codes "persp") then Some Persp else None

-- the colouring that a word names, or none
unfoldable pub colouring : List ℕ → Option Colouring
colouring word =
    if bytes_eq word (codes "class") then Some Class else if bytes_eq word (codes "rgb16") then Some Rgb16
    else if bytes_eq word (codes "rgb8") then Some Rgb8 else if bytes_eq word (codes "intensity") then Some Intensity else None

-- whether withheld records are hidden, by the word for it, or none
unfoldable pub hides : List ℕ → Option Bool
hides word = if bytes_eq word (codes "show") then Some false else if bytes_eq word (codes "hide") then Some true else None

-- whether a word fits this place of a filter: a class list, and what becomes of withheld records
unfoldable pub fits_filter : ℕ → List ℕ → Bool
fits_filter place word = if place == 0 then is_some (class_list word) else place == 1 && is_some (hides word)

-- whether a word fits this place of a view: a kind of camera, eighteen numbers, a colouring, and the words of a filter
unfoldable pub fits : ℕ → List ℕ → Bool
fits place word =
    if place == 0 then is_some (kind word)
    else if nat_le place 18 then is_some (number word)
    else if place == 19 then is_some (colouring word) else fits_filter (place - 20) word

-- the filter that the words from a place on describe, where they fit
unfoldable pub filter_at : List (List ℕ) → ℕ → Filter
filter_at ws place = record {
  classes = unwrap_or (class_list (word_at ws place)) all_classes;
  hide_withheld = unwrap_or (hides (word_at ws (place + 1))) false;
}

-- the eighteen numbers of a camera in the words of a view
unfoldable pub camera_numbers : List (List ℕ) → List ℤ
camera_numbers ws = map (λ place. unwrap_or (number (word_at ws place)) (pos 0)) (range_with_len 1 18)

-- the view of a camera's kind and numbers, a colouring and a filter, or the first number that is out of its range
abbrev pub view_through : Kind → List ℤ → Colouring → Filter → Result View TextFault
view_through kind n colouring filter =
    option_map_or (λ limit. Err (Limit limit)) (first_outside (projection_of kind) n)
    (Ok (record { camera = lens_of (projection_of kind) n; colouring = colouring; filter = filter }))

-- the view of words that fit, or the first camera number that is out of its range
abbrev pub fitting_view : List (List ℕ) → Result View TextFault
fitting_view ws =
    view_through (unwrap_or (kind (word_at ws 0)) Ortho) (camera_numbers ws)
    (unwrap_or (colouring (word_at ws 19)) Class) (filter_at ws 20)

-- the view of twenty-two words, or why it is none: first a word that doesn't fit, then a camera number out of its range
unfoldable pub view_of : List (List ℕ) → Result View TextFault
view_of ws = option_map_or (λ at. Err (Line at)) (misfit fits (λ count. count == 22) ws) (fitting_view ws)

-- the filter of two words, or the first that doesn't fit
unfoldable pub filter_of : List (List ℕ) → Result Filter TextFault
filter_of ws = option_map_or (λ at. Err (Line at)) (misfit fits_filter (λ count. count == 2) ws) (Ok (filter_at ws 0))
