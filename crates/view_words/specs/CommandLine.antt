-- The words of the command line, without the program's name, by the rows of this table:
--   draw SURVEY OUT WORKERS and the 22 words of a view
--   info SURVEY OUT
--   trial START N WORKERS OUT
--   serve SURVEY WORKERS JOURNAL IN1 OUT1 .., with 1 to 16 pairs
use Rattle.std.specs.Prelude.{◌≡◌, ℕ, ◌-◌, ◌%◌, ◌^◌, ◌==◌, ◌&&◌, ◌||◌, not, nat_le, Bool, true, false, List, [], ◌∷◌, map, length, slice_index_or, drop, String, string_bytes, codes, Option, Some, None, is_none, Result, Err}
use Rattle.std.specs.List.{find, flat_map, list_any, range_with_len}
use Rattle.std.specs.Option.{option_map_or, option_and_then}
use Rattle.std.specs.Str.{bytes_eq}
use Rattle.view_base.specs.Text.{number}
use Rattle.view_base.specs.Fitting.{word_at, misfit}
use Rattle.view_meaning.specs.Camera.{between}
use Rattle.view_meaning.specs.Picture.{View}
use Rattle.view_text.specs.declared.fault.TextFault.{TextFault}
use Rattle.view_text.specs.declared.fault.TextFault.TheVariants.{Line}
use Rattle.view_text.specs.ViewWords.{fits, fitting_view}
use Rattle.view_words.specs.declared.row.Row.{Row}
use Rattle.view_words.specs.declared.row.Row.TheVariants.{Draw, Info, Trial, Serve}
use Rattle.view_words.specs.declared.kind.WordKind.{WordKind}
use Rattle.view_words.specs.declared.kind.WordKind.TheVariants.{Command, ReadName, WrittenName, Workers, Start, Records, ViewWord, NoWord}

-- the texts of the words
abbrev pub texts : {Y : Type 0} → List (String Y) → List (List ℕ)
texts words = map string_bytes words

-- the word with which a row begins
abbrev pub command : Row → List ℕ
command Draw = codes "draw"
command Info = codes "info"
command Trial = codes "trial"
command Serve = codes "serve"

-- all rows
abbrev pub all_rows : List Row
all_rows = Draw ∷ Info ∷ Trial ∷ Serve ∷ []

-- the row of these with whose command the words begin, or none
abbrev pub row_in : List Row → List (List ℕ) → Option Row
row_in rows ws = find (λ row. bytes_eq (word_at ws 0) (command row)) rows

-- what a row has at its places in order, a `serve` with all of its 16 pairs
abbrev pub kinds : Row → List WordKind
kinds Draw = Command ∷ ReadName ∷ WrittenName ∷ Workers ∷ map ViewWord (range_with_len 0 22)
kinds Info = Command ∷ ReadName ∷ WrittenName ∷ []
kinds Trial = Command ∷ Start ∷ Records ∷ Workers ∷ WrittenName ∷ []
kinds Serve = Command ∷ ReadName ∷ Workers ∷ WrittenName ∷ flat_map (λ k. ReadName ∷ WrittenName ∷ []) (range_with_len 0 16)

-- what a row has at a place, from 0
unfoldable pub kind_at : Row → ℕ → WordKind
kind_at row k = slice_index_or (kinds row) k NoWord

-- the number that a word is, where it is one within these limits
abbrev pub number_within : ℕ → ℕ → List ℕ → Option ℕ
number_within least greatest word = option_and_then (λ z. between z least greatest) (number word)

-- whether an earlier name bars the same name, by what the two are for: `-` may be read once and written once
abbrev pub bars : WordKind → WordKind → List ℕ → Bool
bars ReadName ReadName name = true
bars WrittenName WrittenName name = true
bars ReadName WrittenName name = not (bytes_eq name (codes "-"))
bars WrittenName ReadName name = not (bytes_eq name (codes "-"))
bars _ _ name = false

-- whether the name at a place j bars the one at a later place k: it is the same name, and not a `-` read and a `-` written
abbrev pub barred : Row → List (List ℕ) → ℕ → ℕ → Bool
barred row ws k j = bytes_eq (word_at ws j) (word_at ws k) && bars (kind_at row j) (kind_at row k) (word_at ws k)

-- whether an earlier name of the line bars the one at a place
unfoldable pub is_taken : Row → List (List ℕ) → ℕ → Bool
is_taken row ws k = list_any (barred row ws k) (range_with_len 0 k)

-- whether the word at a place is refused where this is what its row has there: a name is where it is empty, or an
-- earlier name bars it
abbrev pub is_refused : WordKind → Row → List (List ℕ) → ℕ → Bool
is_refused Command row ws k = false
is_refused Workers row ws k = is_none (number_within 1 64 (word_at ws k))
is_refused Start row ws k = is_none (number_within 0 (2 ^ 64 - 1) (word_at ws k))
is_refused Records row ws k = is_none (number_within 0 (2 ^ 23) (word_at ws k))
is_refused (ViewWord place) row ws k = not (fits place (word_at ws k))
is_refused NoWord row ws k = true
is_refused _ row ws k = bytes_eq (word_at ws k) [] || is_taken row ws k

-- whether so many words are all that a row needs: `serve` needs a pair, and each pair whole
abbrev pub is_whole : Row → ℕ → Bool
is_whole Serve n = nat_le 6 n && n % 2 == 0
is_whole row n = n == length (kinds row)

-- the fewest words that a row has
abbrev pub least_words : Row → ℕ
least_words Draw = 26
least_words Info = 3
least_words Trial = 5
least_words Serve = 6

-- the first refused word of a row, or the number of words where more are needed, or none
unfoldable pub badword_in : Row → List (List ℕ) → Option ℕ
badword_in row ws = misfit (λ k word. not (is_refused (kind_at row k) row ws k)) (is_whole row) ws

-- the first refused word of a command line by the rows that are taken, or the number of words where more are needed, or
-- none; place 0 where the words begin no row
unfoldable pub badword : List Row → List (List ℕ) → Option ℕ
badword rows ws = option_map_or (λ row. badword_in row ws) (row_in rows ws) (Some 0)

-- the words of a row that fit
abbrev pub IsLine : Row → List (List ℕ) → Type 0
IsLine row ws = badword (row ∷ []) ws ≡ None

-- the place of the number of workers, in the rows that have one
abbrev pub workers_place : Row → ℕ
workers_place Serve = 2
workers_place _ = 3

-- the view that words beginning with `draw` ask for from place 4 on, or why there is none: first a refused word, then a
-- camera number out of its range
unfoldable pub drawn_view : List (List ℕ) → Result View TextFault
drawn_view ws = option_map_or (λ at. Err (Line at)) (badword_in Draw ws) (fitting_view (drop 4 ws))

-- the view that the words of a command line ask for as those of a `draw`, or why there is none
unfoldable pub draw_of : List (List ℕ) → Result View TextFault
draw_of ws = option_map_or (λ at. Err (Line at)) (badword (Draw ∷ []) ws) (fitting_view (drop 4 ws))
