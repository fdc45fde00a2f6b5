-- What a cursor over words knows part way through them.
use Rattle.std.specs.Prelude.{◌≡◌, ℕ, ◌<◌, ◌≤◌, Bool, true, List, length, map, drop, string_bytes}
use Rattle.view_base.specs.Text.{words}
use Rattle.view_base.specs.Fitting.{word_at}
use Rattle.view_base.specs.declared.cursor.WordsOf.{WordsOf}
use Rattle.view_base.specs.declared.cursor.WordsOf.TheVariants.{Line, Separate}

-- the words of a source
abbrev pub all_words : WordsOf → List (List ℕ)
all_words (Line line) = words line.now
all_words (Separate list) = map string_bytes list.now

-- the words of a source from a position on: a byte of a line, or a place of a list
abbrev pub words_from : WordsOf → ℕ → List (List ℕ)
words_from (Line line) at = words (drop at line.now)
words_from (Separate list) at = drop at (map string_bytes list.now)

-- the last position of a source
abbrev pub last_position : WordsOf → ℕ
last_position (Line line) = length line.now
last_position (Separate list) = length list.now

-- of these words so many are read, which all fit, and those are left
pub record IsRead (fits : ℕ → List ℕ → Bool) (all left : List (List ℕ)) (place : ℕ) : Type 0 where
  pub fit : (k : ℕ) → k < place → fits k (word_at all k) ≡ true
  pub left_are : left ≡ drop place all
  pub within : place ≤ length all
