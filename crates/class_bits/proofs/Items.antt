-- The items of a class list, and the set that they name together.
use Rattle.std.proofs.Common.{◌≡◌, ℕ, ◌+◌, ◌<◌, Bool, true, false, ◌||◌, ◌&&◌, ltb, leb, Option, Some, None, List, [], ◌∷◌, length, get_or, take, drop, refl, sym, ap, ◌∙◌, inl, inr, arith}
use Rattle.std.specs.Option.{option_map}
use Rattle.std.specs.List.{All, position, position_or_len, slice_split}
use Rattle.std.specs.Prelude.{codes}
use Rattle.std.specs.Str.{bytes_eq}
use Rattle.std.proofs.lemmas.Bool.{cases_Bool, ltb-false}
use Rattle.std.proofs.lemmas.List.{at_drop_more, at_drop_all}
use Rattle.std.proofs.lemmas.List.Folds.{list_any_at, list_any_none}
use Rattle.std.proofs.lemmas.List.Quantifiers.{position-Some}
use Rattle.std.proofs.lemmas.List.Sums.{position_or_len_is, fails_before_first}
use Rattle.view_base.specs.Text.{digits}
use Rattle.view_meaning.specs.Classes.{has, all_classes}
use Rattle.class_bits.specs.ClassSet.{no_classes, set_of}
use Rattle.class_bits.specs.Kept.{IsClassSet}
use Rattle.class_bits.proofs.Sets.{same_sets, has-set_of, IsClassSet-set_of, has-no_classes, IsClassSet-no_classes}
use Rattle.class_bits.specs.ClassSet.{is_dash, is_comma, in_ranges, range_of, item_range, item_ranges, and_ranges, class_list}

-- whether a class lies between two others, both included
abbrev pub is_between : ℕ → ℕ × ℕ → Bool
is_between class range = leb range.0 class && leb class range.1

-- an item with a dash is cut there
pub item_range-cut : (item : List ℕ) (n : ℕ) → position is_dash item ≡ Some n → item_range item ≡ range_of (digits (take n item)) (digits (drop (n + 1) item))
unfolding item_range
item_range-cut item n found =
    let at = position-Some is_dash item n 0 found in
    let place : position_or_len is_dash item ≡ n = position_or_len_is is_dash item n 0 (omega (arith, at.0)) at.2 (λ _. at.1) in
    rw (list_any_at is_dash item n 0 at.0 at.1, place) refl

-- where no byte passes, each fails
all_fail : (p : ℕ → Bool) (cs : List ℕ) → position p cs ≡ None → All (λ c. p c ≡ false) cs
all_fail p cs missed k d inside =
    elim (cases_Bool (ltb (position_or_len p cs) (length cs))) [
      | inl found ↦ absurd (let some : position p cs ≡ Some (position_or_len p cs) = rw found refl in cc)
      | inr past ↦ fails_before_first p cs k d (omega (arith, ltb-false _ _ past))
    ]

-- an item without a dash is one number
pub item_range-whole : (item : List ℕ) → position is_dash item ≡ None → item_range item ≡ range_of (digits item) (digits item)
unfolding item_range
item_range-whole item missed = rw (list_any_none is_dash item (all_fail is_dash item missed)) refl

-- sets by tests that agree are the same
pub same_set_of : (p q : ℕ → Bool) → ((c : ℕ) → c < 256 → p c ≡ q c) → set_of p ≡ set_of q
same_set_of p q agree = same_sets (set_of p) (set_of q) (IsClassSet-set_of p) (IsClassSet-set_of q) (λ c l. has-set_of p c l ∙ agree c l ∙ sym (has-set_of q c l))

pub set_of-has : (set : List ℕ) (p : ℕ → Bool) → IsClassSet set → ((c : ℕ) → c < 256 → has set c ≡ p c) → set ≡ set_of p
set_of-has set p is agree = same_sets set (set_of p) is (IsClassSet-set_of p) (λ c l. agree c l ∙ sym (has-set_of p c l))

-- a set with the classes of items put into it, or none where one is no item
abbrev pub joined_range : Option (ℕ × ℕ) → (List ℕ → Option (List ℕ)) → List ℕ → Option (List ℕ)
joined_range None more set = None
joined_range (Some range) more set = more (set_of (λ c. has set c || is_between c range))

abbrev pub joined : List (List ℕ) → List ℕ → Option (List ℕ)
joined [] set = Some set
joined (item ∷ items) set = joined_range (item_range item) (joined items) set

in_more : (b x y : Bool) → ((b || x) || y) ≡ (b || (x || y))
in_more true x y = refl
in_more false x y = refl

-- the set of a set's classes and those in some ranges
abbrev pub with_ranges : List ℕ → List (ℕ × ℕ) → List ℕ
with_ranges set ranges = set_of (λ c. has set c || in_ranges ranges c)

regrouped : (range : ℕ × ℕ) (set : List ℕ) (ranges : Option (List (ℕ × ℕ))) → option_map (with_ranges (set_of (λ c. has set c || is_between c range))) ranges ≡ option_map (with_ranges set) (and_ranges (Some range) ranges)
regrouped range set None = refl
regrouped range set (Some ranges) =
    ap Some (same_set_of (λ c. has (set_of (λ d. has set d || is_between d range)) c || in_ranges ranges c) (λ c. has set c || in_ranges (range ∷ ranges) c) (λ c l.
    ap (λ b. b || in_ranges ranges c) (has-set_of (λ d. has set d || is_between d range) c l) ∙ in_more (has set c) (is_between c range) (in_ranges ranges c)))

joined-step : (range : Option (ℕ × ℕ)) (items : List (List ℕ)) (set : List ℕ) → IsClassSet set → ((s : List ℕ) → IsClassSet s → joined items s ≡ option_map (with_ranges s) (item_ranges items)) → joined_range range (joined items) set ≡ option_map (with_ranges set) (and_ranges range (item_ranges items))
joined-step None items set is more = refl
joined-step (Some range) items set is more =
    more (set_of (λ c. has set c || is_between c range)) (IsClassSet-set_of _) ∙ regrouped range set (item_ranges items)

or_none : (b : Bool) → b ≡ (b || false)
or_none true = refl
or_none false = refl

-- the items of a list put into a set are the set's classes and those of their ranges
pub joined_is : (items : List (List ℕ)) (set : List ℕ) → IsClassSet set → joined items set ≡ option_map (with_ranges set) (item_ranges items)
joined_is [] set is = ap Some (set_of-has set (λ c. has set c || false) is (λ c l. or_none (has set c)))
joined_is (item ∷ items) set is = joined-step (item_range item) items set is (joined_is items)

from_none : (ranges : Option (List (ℕ × ℕ))) → option_map (with_ranges no_classes) ranges ≡ option_map (λ rs. set_of (in_ranges rs)) ranges
from_none None = refl
from_none (Some ranges) =
    ap Some (same_set_of (λ c. has no_classes c || in_ranges ranges c) (in_ranges ranges) (λ c l. ap (λ b. b || in_ranges ranges c) (has-no_classes c)))

-- a class list other than `all` is its items, put into the set without a class
pub class_list-items : (word : List ℕ) → bytes_eq word (codes "all") ≡ false → class_list word ≡ joined (slice_split is_comma word) no_classes
unfolding class_list
class_list-items word other =
    rw other (sym (joined_is (slice_split is_comma word) no_classes IsClassSet-no_classes ∙ from_none (item_ranges (slice_split is_comma word))))

pub class_list-all : (word : List ℕ) → bytes_eq word (codes "all") ≡ true → class_list word ≡ Some all_classes
unfolding class_list
class_list-all word same = rw same refl

-- a set after one more range
pub after_range : (old new : List ℕ) (first last : ℕ) → IsClassSet new → ((c : ℕ) → c < 256 → has new c ≡ (has old c || (leb first c && leb c last))) → new ≡ set_of (λ c. has old c || is_between c (first, last))
after_range old new first last is added = set_of-has new (λ c. has old c || is_between c (first, last)) is added

-- one item more of those that are left
pub joined-turn : (items : List (List ℕ)) (n : ℕ) (item set : List ℕ) → n < length items → item ≡ get_or items n item → joined (drop n items) set ≡ joined_range (item_range item) (joined (drop (n + 1) items)) set
joined-turn items n item set inside same =
    at_drop_more (λ left. joined left set) items n item inside ∙ ap (λ i. joined_range (item_range i) (joined (drop (n + 1) items)) set) (sym same)

-- where the next item is no item, the list has no set
pub joined-stopped : (items : List (List ℕ)) (n : ℕ) (item set : List ℕ) → n < length items → item ≡ get_or items n item → item_range item ≡ None → joined (drop n items) set ≡ None
joined-stopped items n item set inside same none = joined-turn items n item set inside same ∙ rw none refl

-- a set after the next item, and what is left
pub joined-more : (items : List (List ℕ)) (n first last : ℕ) (item set new : List ℕ) → n < length items → item ≡ get_or items n item → item_range item ≡ Some (first, last) → IsClassSet new → ((c : ℕ) → c < 256 → has new c ≡ (has set c || (leb first c && leb c last))) → joined (drop (n + 1) items) new ≡ joined (drop n items) set
joined-more items n first last item set new inside same range is added =
    sym (joined-turn items n item set inside same ∙ rw (range, ← after_range set new first last is added) refl)

pub joined-all : (items : List (List ℕ)) (n : ℕ) (set : List ℕ) → n ≡ length items → joined (drop n items) set ≡ Some set
joined-all items n set all = at_drop_all (λ left. joined left set) items n (omega arith)
