-- The words that put a survey's records in the order of cells.
use Rattle.std.specs.Prelude.{ℕ, ◌+◌, ◌*◌, ◌<◌, ◌≤◌, ◌^◌, List, length, map}
use Rattle.std.specs.List.{range_with_len}
use Rattle.std.specs.List.Sorted.{IsPermutation, IsNonDecreasing}
use Rattle.view_base.specs.declared.place.Box3.{Box3}
use Rattle.view_meaning.specs.Survey.{record_count, point_of}
use Rattle.grid_blocks.specs.LeastBox.{IsLeastBox}
use Rattle.grid_blocks.specs.Grid.{IsExponent, key}

-- the word of record i: the key of its cell above its number
abbrev pub word_of : List ℕ → Box3 → ℕ → ℕ → ℕ
word_of b area e i = key area e (point_of b i) * 2 ^ 26 + i

-- the words of so many records from a number on
abbrev pub words_from : List ℕ → Box3 → ℕ → ℕ → ℕ → List ℕ
words_from b area e first count = map (word_of b area e) (range_with_len first count)

-- the words of all records, rising
pub record IsOrder (b words : List ℕ) : Type 0 where
  pub area : Box3
  pub exponent : ℕ
  pub box : IsLeastBox (map (point_of b) (range_with_len 0 (record_count b))) area
  pub is_exponent : IsExponent area exponent
  pub all : IsPermutation (words_from b area exponent 0 (record_count b)) words
  pub rising : IsNonDecreasing words

-- a list has a place for each of some records from a first on, all of which lie in a box
pub record CanOrder (b : List ℕ) (area : Box3) (first : ℕ) (words : List ℕ) : Type 0 where
  pub within : first + length words ≤ record_count b
  pub few : first + length words < 2 ^ 32
  pub around : IsLeastBox (map (point_of b) (range_with_len 0 (record_count b))) area
