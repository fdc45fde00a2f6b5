-- The records that words name, copied in the order of the words.
use Rattle.std.specs.Prelude.{◌≡◌, ℕ, ◌%◌, ◌<◌, ◌^◌, All, Bool, List, length, map}
use Rattle.view_base.specs.declared.place.Point.{Point}
use Rattle.view_meaning.specs.Survey.{record_count, point_of, withheld_of}

-- three lists have a place for each word, and each word names a record
pub record CanCopy (b words numbers : List ℕ) (points : List Point) (bits : List Bool) : Type 0 where
  pub named : All (λ word. word % 2 ^ 26 < record_count b) words
  pub numbers_size : length numbers ≡ length words
  pub points_size : length points ≡ length words
  pub bits_size : length bits ≡ length words

-- three lists have the number, the point and the withheld bit of the record that each word names
pub record AreCopied (b words numbers : List ℕ) (points : List Point) (bits : List Bool) : Type 0 where
  pub numbers_are : numbers ≡ map (λ word. word % 2 ^ 26) words
  pub points_are : points ≡ map (λ word. point_of b (word % 2 ^ 26)) words
  pub bits_are : bits ≡ map (λ word. withheld_of b (word % 2 ^ 26)) words
