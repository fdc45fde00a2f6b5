-- Words against the tests of their places: which is the first that doesn't fit.
use Rattle.std.specs.Prelude.{ℕ, ◌+◌, ◌==◌, ◌&&◌, Bool, List, [], ◌∷◌, length, slice_index_or, Option, Some, None, if◌then◌else◌}

-- the word at a place, from 0
abbrev pub word_at : List (List ℕ) → ℕ → List ℕ
word_at ws place = slice_index_or ws place []

-- how many words fit, where the first stands at this place, before one that doesn't
abbrev pub fitting : (ℕ → List ℕ → Bool) → ℕ → List (List ℕ) → ℕ
fitting fits place [] = 0
fitting fits place (word ∷ others) = if fits place word then 1 + fitting fits (place + 1) others else 0

-- the first place where words don't fit: that of a word that fails the test of its place, or their number where
-- so many aren't all that are needed; none where they fit
unfoldable pub misfit : (ℕ → List ℕ → Bool) → (ℕ → Bool) → List (List ℕ) → Option ℕ
misfit fits whole ws = if fitting fits 0 ws == length ws && whole (length ws) then None else Some (fitting fits 0 ws)
