-- The words of a line and the numbers among them. A text is the list of its bytes.
use Rattle.std.specs.Prelude.{ℕ, ℤ, pos, neg_ℤ, Bool, ◌&&◌, ◌||◌, ◌==◌, ◌<◌, ◌≤◌, IsTrue, IsFalse, slice_index, nat_lt, nat_le, List, [], ◌∷◌, length, filter, Option, Some, None, if◌then◌else◌}
use Rattle.std.specs.Option.{option_map}
use Rattle.std.specs.Char.{is_ascii_digit}
use Rattle.std.specs.List.{list_all, slice_split}
use Rattle.std.specs.Str.Parse.{digits_value}

-- a blank: a space or a tab
abbrev pub is_blank : ℕ → Bool
is_blank c = c == 32 || c == 9

-- the words of a line in order: the pieces between its blanks that are not empty
unfoldable pub words : List ℕ → List (List ℕ)
words line = filter (λ piece. nat_lt 0 (length piece)) (slice_split is_blank line)

-- the value of 1 to 20 decimal digits, or none where the text is anything else
unfoldable pub digits : List ℕ → Option ℕ
digits text = if list_all is_ascii_digit text && nat_lt 0 (length text) && nat_le (length text) 20 then Some (digits_value 10 text) else None

-- the value of a number, an optional `-` and then 1 to 20 digits, or none where the text is no number
unfoldable pub number : List ℕ → Option ℤ
number [] = None
number (c ∷ cs) = if c == 45 then option_map (λ n. neg_ℤ (pos n)) (digits cs) else option_map (λ n. pos n) (digits (c ∷ cs))

-- from a place of a line on the first word is that from start to finish: blanks alone stand before
-- it, it has no blank, and a blank or the end of the line follows it
pub record IsNextWord (line : List ℕ) (from start finish : ℕ) : Type 0 where
  pub after : from ≤ start
  pub some : start < finish
  pub within : finish ≤ length line
  pub blanks : (k : ℕ) → from ≤ k → k < start → IsTrue (is_blank (slice_index line k))
  pub unbroken : (k : ℕ) → start ≤ k → k < finish → IsFalse (is_blank (slice_index line k))
  pub longest : finish < length line → IsTrue (is_blank (slice_index line finish))
