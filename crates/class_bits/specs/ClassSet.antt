-- Sets of classes, the numbers 0 to 255, as four words of 64 bits whose bits say which classes they have, and class
-- lists as users write them: `all`, or items such as `7` and `9-12` joined by commas.
use Rattle.std.specs.Prelude.{ℕ, zero, suc, ◌+◌, ◌*◌, ◌^◌, ◌==◌, ◌&&◌, nat_le, Bool, List, [], ◌∷◌, map, filter, codes, Option, Some, None, if◌then◌else◌}
use Rattle.std.specs.Option.{option_map}
use Rattle.std.specs.List.{list_any, before_first, after_first, range_with_len, slice_split}
use Rattle.std.specs.Str.{bytes_eq}
use Rattle.view_base.specs.Text.{digits}
use Rattle.view_meaning.specs.Classes.{has, all_classes}

-- the set without a class
abbrev pub no_classes : List ℕ
no_classes = 0 ∷ 0 ∷ 0 ∷ 0 ∷ []

-- the classes of a set, in rising order
unfoldable pub members : List ℕ → List ℕ
members set = filter (has set) (range_with_len 0 256)

-- the number whose first so many bits say which places pass a test
unfoldable pub bits_of : (ℕ → Bool) → ℕ → ℕ
bits_of passes zero = 0
bits_of passes (suc n) = bits_of passes n + (if passes n then 2 ^ n else 0)

-- the set of the classes that pass a test
unfoldable pub set_of : (ℕ → Bool) → List ℕ
set_of passes = map (λ k. bits_of (λ j. passes (64 * k + j)) 64) (0 ∷ 1 ∷ 2 ∷ 3 ∷ [])

-- whether a class lies in one of these ranges, both ends of each included
abbrev pub in_ranges : List (ℕ × ℕ) → ℕ → Bool
in_ranges ranges class = list_any (λ (range : ℕ × ℕ). nat_le range.0 class && nat_le class range.1) ranges

-- a range of classes by its ends, which are there, are at most 255 and do not fall
abbrev pub range_of : Option ℕ → Option ℕ → Option (ℕ × ℕ)
range_of (Some first) (Some last) = if nat_le first last && nat_le last 255 then Some (first, last) else None
range_of _ _ = None

-- a comma, as between two items
abbrev pub is_comma : ℕ → Bool
is_comma c = c == 44

-- a dash, as in `a-b`
abbrev pub is_dash : ℕ → Bool
is_dash c = c == 45

-- the range of an item of a class list, `a` or `a-b`, or none where it is no item
unfoldable pub item_range : List ℕ → Option (ℕ × ℕ)
item_range item =
    if list_any is_dash item then range_of (digits (before_first is_dash item)) (digits (after_first is_dash item))
    else range_of (digits item) (digits item)

-- one more range before others, where all are there
abbrev pub and_ranges : Option (ℕ × ℕ) → Option (List (ℕ × ℕ)) → Option (List (ℕ × ℕ))
and_ranges (Some range) (Some ranges) = Some (range ∷ ranges)
and_ranges _ _ = None

-- the ranges of items, or none where one of them is no item
abbrev pub item_ranges : List (List ℕ) → Option (List (ℕ × ℕ))
item_ranges [] = Some []
item_ranges (item ∷ items) = and_ranges (item_range item) (item_ranges items)

-- the set that a class list names: all classes, or those in the ranges of the items between its
-- commas; none where the word is no class list
unfoldable pub class_list : List ℕ → Option (List ℕ)
class_list word =
    if bytes_eq word (codes "all") then Some all_classes
    else option_map (λ ranges. set_of (in_ranges ranges)) (item_ranges (slice_split is_comma word))
