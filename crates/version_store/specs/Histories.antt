-- Histories of the versions of a survey's classes.
use Rattle.std.specs.Prelude.{◌≡◌, ℕ, ◌+◌, ◌-◌, ◌<◌, ◌==◌, ◌||◌, nat_lt, Bool, false, List, [], ◌∷◌, length, map, filter, take, count_by, Some, slice_get}
use Rattle.std.specs.List.{range_with_len, flat_map}
use Rattle.view_meaning.specs.Classes as meaning
use Rattle.version_store.specs.declared.history.What.{What}
use Rattle.version_store.specs.declared.history.What.TheVariants.{Publish, Pin, Unpin}
use Rattle.version_store.specs.declared.history.Entry.{Entry}

-- the edit that an entry publishes, or nothing
abbrev pub edit_in : What → List meaning.Edit
edit_in (Publish edit) = edit ∷ []
edit_in _ = []

-- the edits that a history published, in order
unfoldable pub journal : List Entry → List meaning.Edit
journal h = flat_map (λ entry. edit_in entry.what) h

-- each entry with the newest version once it was made, where it was v before
unfoldable pub numbered : ℕ → List Entry → List (Entry × ℕ)
numbered v [] = []
numbered v (entry ∷ others) = (entry, v + length (edit_in entry.what)) ∷ numbered (v + length (edit_in entry.what)) others

-- those of a caller
abbrev pub entries_by : ℕ → List (Entry × ℕ) → List (Entry × ℕ)
entries_by who entries = filter (λ (at : Entry × ℕ). at.0.who == who) entries

-- whether version v is pinned where the newest is n
abbrev pub is_pin : ℕ → What → ℕ → Bool
is_pin v Pin n = n == v
is_pin v _ n = false

-- whether a pin of version v is given back
abbrev pub is_unpin : ℕ → What → ℕ → Bool
is_unpin v (Unpin u) n = u == v
is_unpin v _ n = false

-- how many entries are such
abbrev pub how_many : (What → ℕ → Bool) → List (Entry × ℕ) → ℕ
how_many test entries = count_by (λ (at : Entry × ℕ). test at.0.what at.1) entries

-- a caller has pinned version v more often than given it back
abbrev pub HasPinned : List Entry → ℕ → ℕ → Type 0
HasPinned h who v = how_many (is_unpin v) (entries_by who (numbered 0 h)) < how_many (is_pin v) (entries_by who (numbered 0 h))

-- in a legal history a caller gives back only what it has pinned and not given back before
unfoldable pub IsLegal : List Entry → Type 0
IsLegal h = (k who v : ℕ) → slice_get h k ≡ Some (record { who = who; what = Unpin v }) → HasPinned (take k h) who v

-- every caller gave each of its pins back
unfoldable pub IsGivenBack : List Entry → Type 0
IsGivenBack h = (who v : ℕ) → how_many (is_unpin v) (entries_by who (numbered 0 h)) ≡ how_many (is_pin v) (entries_by who (numbered 0 h))

-- how many pins of version v are out
abbrev pub pins_out : List Entry → ℕ → ℕ
pins_out h v = how_many (is_pin v) (numbered 0 h) - how_many (is_unpin v) (numbered 0 h)

-- the versions that are held, in rising order, each with its pins that are out: those with such pins, and the
-- newest one
unfoldable pub held : List Entry → List (ℕ × ℕ)
held h = map (λ v. (v, pins_out h v)) (filter (λ v. v == length (journal h) || nat_lt 0 (pins_out h v)) (range_with_len 0 (length (journal h) + 1)))
