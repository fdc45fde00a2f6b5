-- A saved file place by place is its parts: what stands before the points, the records with their classes, and
-- what stands after them.
use Rattle.std.proofs.Common.{◌≡◌, ◌≢◌, ℕ, zero, suc, ◌+◌, ◌-◌, ◌*◌, ◌/◌, ◌%◌, ◌<◌, ◌≤◌, ◌==◌, ◌&&◌, nat_le, nat_lt, Bool, true, false, if◌then◌else◌, inl, inr, List, [], ◌++◌, length, take, drop, get_or, set, map, arith, refl, sym, ap, ◌∙◌, take-append-drop}
use Rattle.std.proofs.lemmas.List.{length-append, length-take-le, length-drop, get_or-append_right, get_or_append_left, get_or-take, get_or-drop, get_or-set_same, get_or-set_other, set-get_or}
use Rattle.std.proofs.lemmas.Bool.{cases_lt}
use Rattle.std.proofs.lemmas.Bool.Decides.{nat_tests}
use Rattle.std.proofs.lemmas.List.FromFn.{fill_by_all, get_or-map-range_with_len, length-map-range_with_len}
use Rattle.std.proofs.Math.Nat.{mod-lt, div-add-mod', mul-le-mul_right}
use Rattle.std.specs.List.{flat_map, range_with_len}
use Rattle.view_ends.proofs.Taken.{drop-add}
use Rattle.view_meaning.proofs.Rows.{place_below, flat_map-same}
use Rattle.view_meaning.specs.Classes.{class_of, with_class, class_at, classes, is_class_byte, saved_byte, saved}
use Rattle.view_meaning.specs.Survey.{u8_at, points_at, points_end, format_of, record_length, record_at, record_count, class_place, class_byte}
use Rattle.las_write.specs.Points.{HasPoints, record_bytes, saved_record, saved_records}
use Rattle.las_write.proofs.Runs.{parts, place_within, length-saved_record, length-saved_records, length-record_bytes, saved_records-append, read_records, read_records-more}

-- the points end where their last record ends
points_between : (b : List ℕ) → points_end b ≡ points_at b + record_count b * record_length b
unfolding points_end
points_between b = refl

-- the parts is as long as the file that was read
parts-length : (b cs : List ℕ) → points_end b ≤ length b → length (parts b cs) ≡ length b
parts-length b cs whole =
    let n = record_count b in
    let front = take (points_at b) b in
    let back = drop (points_end b) b in
    let between = points_between b in
    length-append front (saved_records b cs 0 n ++ back)
    ∙ omega (arith, whole, between, length-append (saved_records b cs 0 n) back, length-take-le (points_at b) b (omega (arith, whole, between)), length-drop (points_end b) b, length-saved_records b cs 0 n whole (omega arith))

-- the bytes before the points are as read
parts-before_points : (b cs : List ℕ) (j : ℕ) → points_end b ≤ length b → j < points_at b → get_or (parts b cs) j 0 ≡ get_or b j 0
parts-before_points b cs j whole before =
    let between = points_between b in
    let size : length (take (points_at b) b) ≡ points_at b = length-take-le (points_at b) b (omega (arith, whole, between)) in
    get_or_append_left (take (points_at b) b) (saved_records b cs 0 (record_count b) ++ drop (points_end b) b) 0 j (omega (arith, before, size))
    ∙ get_or-take (points_at b) b j 0 before

-- the bytes after the points are as read
parts-after_points : (b cs : List ℕ) (j : ℕ) → points_end b ≤ length b → points_end b ≤ j → get_or (parts b cs) j 0 ≡ get_or b j 0
parts-after_points b cs j whole after =
    let n = record_count b in
    let between = points_between b in
    let size : length (take (points_at b) b) ≡ points_at b = length-take-le (points_at b) b (omega (arith, whole, between)) in
    let runs : length (saved_records b cs 0 n) ≡ n * record_length b = length-saved_records b cs 0 n whole (omega arith) in
    let same : points_end b + (j - points_at b - n * record_length b) ≡ j = omega (arith, after, between) in
    get_or-append_right (take (points_at b) b) (saved_records b cs 0 n ++ drop (points_end b) b) (points_at b) j 0 size (omega (arith, after, between))
    ∙ get_or-append_right (saved_records b cs 0 n) (drop (points_end b) b) (n * record_length b) (j - points_at b) 0 runs (omega (arith, after, between))
    ∙ get_or-drop (points_end b) b (j - points_at b - n * record_length b) 0
    ∙ ap (λ (k : ℕ). get_or b k 0) same

-- byte j of record i of a run from record 0
in_run : (b cs : List ℕ) (n i j : ℕ) → points_end b ≤ length b → n ≤ record_count b → i < n → j < record_length b
    → get_or (saved_records b cs 0 n) (i * record_length b + j) 0 ≡ get_or (saved_record b cs i) j 0
in_run b cs n i j whole inside below within =
    let before = saved_records b cs 0 i in
    let this = saved_record b cs i in
    let after = saved_records b cs (i + 1) (n - (i + 1)) in
    let split : i + suc (n - (i + 1)) ≡ n = omega (arith, below) in
    let start : 0 + i ≡ i = omega arith in
    let size : length before ≡ i * record_length b = length-saved_records b cs 0 i whole (omega (arith, below, inside)) in
    let bytes : j < length this = omega (arith, within, length-saved_record b cs i whole (omega (arith, below, inside))) in
    let parts : saved_records b cs 0 n ≡ before ++ (this ++ after) =
    ap (λ (k : ℕ). saved_records b cs 0 k) (sym split) ∙ saved_records-append b cs 0 i (suc (n - (i + 1))) ∙ ap (λ (k : ℕ). before ++ saved_records b cs k (suc (n - (i + 1)))) start in
    let e : i * record_length b + j - i * record_length b ≡ j = omega arith in
    ap (λ (l : List ℕ). get_or l (i * record_length b + j) 0) parts
    ∙ get_or-append_right before (this ++ after) (i * record_length b) (i * record_length b + j) 0 size (omega arith)
    ∙ ap (λ (k : ℕ). get_or (this ++ after) k 0) e ∙ get_or_append_left this after 0 j bytes

-- byte j of record i of the parts
parts-in_record : (b cs : List ℕ) (i j : ℕ) → points_end b ≤ length b → i < record_count b → j < record_length b
    → get_or (parts b cs) (record_at b i + j) 0 ≡ get_or (saved_record b cs i) j 0
unfolding record_at
parts-in_record b cs i j whole below within =
    let n = record_count b in
    let between = points_between b in
    let size : length (take (points_at b) b) ≡ points_at b = length-take-le (points_at b) b (omega (arith, whole, between)) in
    let runs : length (saved_records b cs 0 n) ≡ n * record_length b = length-saved_records b cs 0 n whole (omega arith) in
    let inside : i * record_length b + j < record_length b * n = place_below j i (record_length b) n within below in
    let turned : record_length b * n ≡ n * record_length b = grind arith in
    let e : points_at b + i * record_length b + j - points_at b ≡ i * record_length b + j = omega arith in
    get_or-append_right (take (points_at b) b) (saved_records b cs 0 n ++ drop (points_end b) b) (points_at b) (points_at b + i * record_length b + j) 0 size (omega arith)
    ∙ ap (λ (k : ℕ). get_or (saved_records b cs 0 n ++ drop (points_end b) b) k 0) e
    ∙ get_or_append_left (saved_records b cs 0 n) (drop (points_end b) b) 0 (i * record_length b + j) (omega (arith, inside, turned, runs))
    ∙ in_run b cs n i j whole (omega arith) below within

read_in_record : (b : List ℕ) (i j : ℕ) → j < record_length b → get_or (record_bytes b i) j 0 ≡ get_or b (record_at b i + j) 0
unfolding record_bytes
read_in_record b i j within = get_or-take (record_length b) (drop (record_at b i) b) j 0 within ∙ get_or-drop (record_at b i) b j 0

-- the class byte of record i of the parts is the one that was read with another class
parts-class_byte : (b cs : List ℕ) (i : ℕ) → points_end b ≤ length b → class_place (format_of b) < record_length b → i < record_count b
    → get_or (parts b cs) (record_at b i + class_place (format_of b)) 0 ≡ with_class (format_of b) (class_byte b i) (get_or cs i 0)
unfolding saved_record class_byte u8_at
parts-class_byte b cs i whole room below =
    let place = class_place (format_of b) in
    let bytes : place < length (record_bytes b i) = omega (arith, room, length-record_bytes b i whole below) in
    parts-in_record b cs i place whole below room
    ∙ get_or-set_same (record_bytes b i) place (with_class (format_of b) (get_or (record_bytes b i) place 0) (get_or cs i 0)) 0 bytes
    ∙ ap (λ (k : ℕ). with_class (format_of b) k (get_or cs i 0)) (read_in_record b i place room)

-- every byte of record i but its class byte is as read
parts-other_byte : (b cs : List ℕ) (i j : ℕ) → points_end b ≤ length b → i < record_count b → j < record_length b → j ≢ class_place (format_of b)
    → get_or (parts b cs) (record_at b i + j) 0 ≡ get_or b (record_at b i + j) 0
unfolding saved_record
parts-other_byte b cs i j whole below within other =
    parts-in_record b cs i j whole below within
    ∙ get_or-set_other (record_bytes b i) (class_place (format_of b)) j (with_class (format_of b) (get_or (record_bytes b i) (class_place (format_of b)) 0) (get_or cs i 0)) 0 other
    ∙ read_in_record b i j within

all_true : (x y z : Bool) → x ≡ true → y ≡ true → z ≡ true → (x && y && z) ≡ true
all_true x y z a b c = ap (λ (t : Bool). t && y && z) a ∙ ap (λ (t : Bool). true && t && z) b ∙ c

first_false : (x y z : Bool) → x ≡ false → (x && y && z) ≡ false
first_false x y z a = ap (λ (t : Bool). t && y && z) a

second_false : (x y z : Bool) → y ≡ false → (x && y && z) ≡ false
second_false true y z b = ap (λ (t : Bool). t && z) b
second_false false y z b = refl

third_false : (x y z : Bool) → z ≡ false → (x && y && z) ≡ false
third_false true true z c = c
third_false true false z c = refl
third_false false y z c = refl

-- a byte that is no class byte is as read
saved_byte-read : (b cs : List ℕ) (at : ℕ) → is_class_byte b at ≡ false → saved_byte b cs at ≡ get_or b at 0
unfolding saved_byte u8_at
saved_byte-read b cs at misses =
    ap (λ (t : Bool). if t then with_class (format_of b) (get_or b at 0) (get_or cs ((at - points_at b) / record_length b) 0) else get_or b at 0) misses

-- a class byte has its record's class
saved_byte-class : (b cs : List ℕ) (at : ℕ) → is_class_byte b at ≡ true → saved_byte b cs at ≡ with_class (format_of b) (get_or b at 0) (get_or cs ((at - points_at b) / record_length b) 0)
unfolding saved_byte u8_at
saved_byte-class b cs at hits =
    ap (λ (t : Bool). if t then with_class (format_of b) (get_or b at 0) (get_or cs ((at - points_at b) / record_length b) 0) else get_or b at 0) hits

no_class_before : (b : List ℕ) (at : ℕ) → at < points_at b → is_class_byte b at ≡ false
unfolding is_class_byte
no_class_before b at before = first_false (nat_le (points_at b) at) _ _ (grind (arith, nat_tests))

no_class_after : (b : List ℕ) (at : ℕ) → points_end b ≤ at → is_class_byte b at ≡ false
unfolding is_class_byte
no_class_after b at after = second_false (nat_le (points_at b) at) (nat_lt at (points_end b)) _ (grind (arith, nat_tests))

no_class_beside : (b : List ℕ) (at : ℕ) → ((at - points_at b) % record_length b == class_place (format_of b)) ≡ false → is_class_byte b at ≡ false
unfolding is_class_byte
no_class_beside b at misses = third_false (nat_le (points_at b) at) (nat_lt at (points_end b)) _ misses

class_here : (b : List ℕ) (at : ℕ) → points_at b ≤ at → at < points_end b → ((at - points_at b) % record_length b == class_place (format_of b)) ≡ true → is_class_byte b at ≡ true
unfolding is_class_byte
class_here b at low high hits = all_true (nat_le (points_at b) at) (nat_lt at (points_end b)) _ (grind (arith, nat_tests)) (grind (arith, nat_tests)) hits

record_starts : (b : List ℕ) (i : ℕ) → record_at b i ≡ points_at b + i * record_length b
unfolding record_at
record_starts b i = refl

row_below : (i j n size : ℕ) → i * size + j < n * size → i < n
row_below i j n size lt = elim (cases_lt i n) [ inl below ↦ below | inr least ↦ absurd (let more : n * size ≤ i * size = mul-le-mul_right size least in omega (arith, lt, more)) ]

-- byte j of record i of the parts is that of the saved file, whether it is the class byte or not
byte_of_record : (b cs : List ℕ) (at i j : ℕ) (is : Bool) → HasPoints b → points_at b ≤ at → at < points_end b → i ≡ (at - points_at b) / record_length b → j ≡ (at - points_at b) % record_length b
    → ((at - points_at b) % record_length b == class_place (format_of b)) ≡ is → record_at b i + j ≡ at → i < record_count b → j < record_length b
    → get_or (parts b cs) at 0 ≡ saved_byte b cs at
unfolding class_byte u8_at
byte_of_record b cs at i j true there low high row column hits here below within =
    let room : class_place (format_of b) < record_length b = place_within (format_of b) (record_length b) there.least in
    let place : j ≡ class_place (format_of b) = let e : (at - points_at b) % record_length b ≡ class_place (format_of b) = grind (arith, nat_tests) in column ∙ e in
    let there_at : record_at b i + class_place (format_of b) ≡ at = ap (λ (k : ℕ). record_at b i + k) (sym place) ∙ here in
    ap (λ (k : ℕ). get_or (parts b cs) k 0) (sym there_at)
    ∙ parts-class_byte b cs i there.whole room below
    ∙ ap (λ (k : ℕ). with_class (format_of b) (get_or b k 0) (get_or cs i 0)) there_at
    ∙ ap (λ (k : ℕ). with_class (format_of b) (get_or b at 0) (get_or cs k 0)) row
    ∙ sym (saved_byte-class b cs at (class_here b at low high hits))
byte_of_record b cs at i j false there low high row column misses here below within =
    let other : j ≢ class_place (format_of b) = let e : (at - points_at b) % record_length b ≢ class_place (format_of b) = grind (arith, nat_tests) in (λ same. e (sym column ∙ same)) in
    ap (λ (k : ℕ). get_or (parts b cs) k 0) (sym here)
    ∙ parts-other_byte b cs i j there.whole below within other
    ∙ ap (λ (k : ℕ). get_or b k 0) here
    ∙ sym (saved_byte-read b cs at (no_class_beside b at misses))

-- a byte among the points
byte_of_points : (b cs : List ℕ) (at : ℕ) → HasPoints b → points_at b ≤ at → at < points_end b → get_or (parts b cs) at 0 ≡ saved_byte b cs at
byte_of_points b cs at there low high =
    let size = record_length b in
    let q = at - points_at b in
    let whole : q / size * size + q % size ≡ q = div-add-mod' q size in
    let within : q % size < size = mod-lt q (let least : 20 ≤ size = there.least in omega (arith, least)) in
    let between : points_end b ≡ points_at b + record_count b * size = points_between b in
    let below : q / size < record_count b = row_below (q / size) (q % size) (record_count b) size (omega (arith, whole, high, low, between)) in
    let starts : record_at b (q / size) ≡ points_at b + q / size * size = record_starts b (q / size) in
    let here : record_at b (q / size) + q % size ≡ at = omega (arith, starts, whole, low) in
    byte_of_record b cs at (q / size) (q % size) (q % size == class_place (format_of b)) there low high refl refl refl here below within

-- each byte of the parts is that of the saved file
byte_of_parts : (b cs : List ℕ) (at : ℕ) → HasPoints b → get_or (parts b cs) at 0 ≡ saved_byte b cs at
byte_of_parts b cs at there = elim (cases_lt at (points_at b)) [
  | inl before ↦ parts-before_points b cs at there.whole before ∙ sym (saved_byte-read b cs at (no_class_before b at before))
  | inr low ↦ elim (cases_lt at (points_end b)) [
    | inl high ↦ byte_of_points b cs at there low high
    | inr after ↦ parts-after_points b cs at there.whole after ∙ sym (saved_byte-read b cs at (no_class_after b at after))
  ]
]

-- a saved file is its parts
pub saved-parts : (b cs : List ℕ) → HasPoints b → saved b cs ≡ parts b cs
unfolding saved
saved-parts b cs there = sym (fill_by_all (saved_byte b cs) (parts b cs) (length b) 0 (parts-length b cs there.whole) (λ at _. byte_of_parts b cs at there))

-- a saved file is as long as the file that was read
pub saved-length : (b cs : List ℕ) → length (saved b cs) ≡ length b
unfolding saved
saved-length b cs = length-map-range_with_len (saved_byte b cs) 0 (length b)

-- the class byte of record i of a saved file is the one that was read with another class
pub saved-class_byte : (b cs : List ℕ) (i : ℕ) → HasPoints b → i < record_count b
    → get_or (saved b cs) (record_at b i + class_place (format_of b)) 0 ≡ with_class (format_of b) (class_byte b i) (get_or cs i 0)
saved-class_byte b cs i there below =
    ap (λ (l : List ℕ). get_or l (record_at b i + class_place (format_of b)) 0) (saved-parts b cs there)
    ∙ parts-class_byte b cs i there.whole (place_within (format_of b) (record_length b) there.least) below

-- every byte of record i but its class byte is as read
pub saved-other_byte : (b cs : List ℕ) (i j : ℕ) → HasPoints b → i < record_count b → j < record_length b → j ≢ class_place (format_of b)
    → get_or (saved b cs) (record_at b i + j) 0 ≡ get_or b (record_at b i + j) 0
saved-other_byte b cs i j there below within other =
    ap (λ (l : List ℕ). get_or l (record_at b i + j) 0) (saved-parts b cs there) ∙ parts-other_byte b cs i j there.whole below within other

-- a record with the class that it has in the file is as read
unchanged_byte : (format byte : ℕ) → with_class format byte (class_of format byte) ≡ byte
unchanged_byte format byte = grind (arith, nat_tests)

unchanged_class : (b : List ℕ) (i : ℕ) → i < record_count b → get_or (classes b []) i 0 ≡ class_of (format_of b) (class_byte b i)
unfolding classes class_at
unchanged_class b i below = get_or-map-range_with_len (class_at b []) 0 (record_count b) i i 0 below (omega arith)

saved_record-unchanged : (b : List ℕ) (i : ℕ) → class_place (format_of b) < record_length b → i < record_count b → saved_record b (classes b []) i ≡ record_bytes b i
unfolding saved_record class_byte u8_at
saved_record-unchanged b i room below =
    let place = class_place (format_of b) in
    let byte : get_or (record_bytes b i) place 0 ≡ get_or b (record_at b i + place) 0 = read_in_record b i place room in
    let class : get_or (classes b []) i 0 ≡ class_of (format_of b) (get_or (record_bytes b i) place 0) = unchanged_class b i below ∙ ap (class_of (format_of b)) (sym byte) in
    ap (λ (k : ℕ). set (record_bytes b i) place (with_class (format_of b) (get_or (record_bytes b i) place 0) k)) class
    ∙ ap (set (record_bytes b i) place) (unchanged_byte (format_of b) (get_or (record_bytes b i) place 0))
    ∙ set-get_or (record_bytes b i) place 0

-- records as read, one after another
read_records-run : (b : List ℕ) (first count : ℕ) → flat_map (record_bytes b) (range_with_len first count) ≡ read_records b first count
read_records-run b first zero = let none : zero * record_length b ≡ 0 = omega arith in sym (ap (λ (k : ℕ). take k (drop (record_at b first) b)) none)
read_records-run b first (suc count) = ap (λ (l : List ℕ). record_bytes b first ++ l) (read_records-run b (first + 1) count) ∙ sym (read_records-more b first count)

-- a file saved with the classes that it has is the file that was read
pub saved_unchanged : (b : List ℕ) → HasPoints b → saved b (classes b []) ≡ b
unfolding points_end record_at
saved_unchanged b there =
    let room : class_place (format_of b) < record_length b = place_within (format_of b) (record_length b) there.least in
    let n = record_count b in
    let start : points_at b + 0 * record_length b ≡ points_at b = omega arith in
    let runs : saved_records b (classes b []) 0 n ≡ take (n * record_length b) (drop (points_at b) b) =
    flat_map-same (saved_record b (classes b [])) (record_bytes b) 0 n (λ k low below. saved_record-unchanged b k room (omega (arith, below)))
    ∙ read_records-run b 0 n ∙ ap (λ (k : ℕ). take (n * record_length b) (drop k b)) start in
    saved-parts b (classes b []) there
    ∙ ap (λ (l : List ℕ). take (points_at b) b ++ (l ++ drop (points_end b) b)) runs
    ∙ ap (λ (l : List ℕ). take (points_at b) b ++ (take (n * record_length b) (drop (points_at b) b) ++ l)) (sym (drop-add (points_at b) (n * record_length b) b))
    ∙ ap (λ (l : List ℕ). take (points_at b) b ++ l) (take-append-drop (n * record_length b) (drop (points_at b) b))
    ∙ take-append-drop (points_at b) b
