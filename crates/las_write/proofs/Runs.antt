-- Runs of point records, as read and with other classes.
use Rattle.std.proofs.Common.{◌≡◌, ℕ, zero, suc, ◌+◌, ◌-◌, ◌*◌, ◌<◌, ◌≤◌, List, [], ◌∷◌, ◌++◌, length, take, drop, get_or, set, arith, refl, sym, ap, ◌∙◌, append-nil}
use Rattle.std.proofs.lemmas.List.{append_assoc, length-append, length-take-le, length-drop, length-set, set-append_left, set-append_right, get_or-append_right, get_or_append_left}
use Rattle.std.proofs.lemmas.Grind.{flat_map-append}
use Rattle.std.proofs.lemmas.Bool.Decides.{nat_tests}
use Rattle.std.proofs.Math.Seq.{take-add}
use Rattle.std.proofs.Math.Nat.{mul-le-mul_right}
use Rattle.std.specs.List.{flat_map, range_with_len}
use Rattle.view_ends.proofs.Taken.{drop-add}
use Rattle.view_meaning.proofs.Nearest.{range_more}
use Rattle.view_meaning.proofs.Rows.{range-append}
use Rattle.view_meaning.specs.Classes.{with_class}
use Rattle.view_meaning.specs.Survey.{points_at, format_of, record_length, record_at, record_count, points_end, class_place}
use Rattle.las_write.specs.Points.{record_bytes, saved_record, saved_records}

-- every record has its class byte
pub place_within : (format size : ℕ) → 20 ≤ size → class_place format < size
place_within format size least = grind (arith, nat_tests)

-- so many records from one on, as read
abbrev pub read_records : List ℕ → ℕ → ℕ → List ℕ
read_records b first count = take (count * record_length b) (drop (record_at b first) b)

-- a record of the file ends where the points end, or before
pub record_within : (b : List ℕ) (i : ℕ) → points_end b ≤ length b → i < record_count b → record_at b i + record_length b ≤ length b
unfolding record_at points_end
record_within b i whole inside =
    let more : suc i * record_length b ≤ record_count b * record_length b = mul-le-mul_right (record_length b) inside in
    let next : suc i * record_length b ≡ i * record_length b + record_length b = grind arith in
    omega (arith, whole, more, next)

pub length-record_bytes : (b : List ℕ) (i : ℕ) → points_end b ≤ length b → i < record_count b → length (record_bytes b i) ≡ record_length b
unfolding record_bytes
length-record_bytes b i whole inside =
    length-take-le (record_length b) (drop (record_at b i) b) (omega (arith, record_within b i whole inside, length-drop (record_at b i) b))

pub length-saved_record : (b cs : List ℕ) (i : ℕ) → points_end b ≤ length b → i < record_count b → length (saved_record b cs i) ≡ record_length b
unfolding saved_record
length-saved_record b cs i whole inside =
    length-set (record_bytes b i) (class_place (format_of b)) _ ∙ length-record_bytes b i whole inside

pub length-saved_records : (b cs : List ℕ) (first count : ℕ) → points_end b ≤ length b → first + count ≤ record_count b → length (saved_records b cs first count) ≡ count * record_length b
length-saved_records b cs first zero whole inside = let none : zero * record_length b ≡ 0 = omega arith in sym none
length-saved_records b cs first (suc count) whole inside =
    let next : suc count * record_length b ≡ record_length b + count * record_length b = grind arith in
    length-append (saved_record b cs first) (saved_records b cs (first + 1) count)
    ∙ omega (arith, next, length-saved_record b cs first whole (omega (arith, inside)), length-saved_records b cs (first + 1) count whole (omega (arith, inside)))

-- a run and the run after it
pub saved_records-append : (b cs : List ℕ) (first m n : ℕ) → saved_records b cs first (m + n) ≡ saved_records b cs first m ++ saved_records b cs (first + m) n
saved_records-append b cs first m n =
    ap (flat_map (saved_record b cs)) (range-append first m n) ∙ flat_map-append (saved_record b cs) (range_with_len first m) (range_with_len (first + m) n)

-- what stands before the points, all records with their classes, and what stands after them
abbrev pub parts : List ℕ → List ℕ → List ℕ
parts b cs = take (points_at b) b ++ (saved_records b cs 0 (record_count b) ++ drop (points_end b) b)

-- one more record at the end of a run
pub saved_records-more : (b cs : List ℕ) (first count : ℕ) → saved_records b cs first (suc count) ≡ saved_records b cs first count ++ saved_record b cs (first + count)
saved_records-more b cs first count =
    ap (flat_map (saved_record b cs)) (range_more first count (first + count) refl)
    ∙ flat_map-append (saved_record b cs) (range_with_len first count) ((first + count) ∷ [])
    ∙ ap (λ (l : List ℕ). saved_records b cs first count ++ l) (append-nil (saved_record b cs (first + count)))

-- a run as read is its first record and the others
pub read_records-more : (b : List ℕ) (first count : ℕ) → read_records b first (suc count) ≡ record_bytes b first ++ read_records b (first + 1) count
unfolding record_bytes record_at
read_records-more b first count =
    let next : suc count * record_length b ≡ record_length b + count * record_length b = grind arith in
    let there : points_at b + first * record_length b + record_length b ≡ points_at b + (first + 1) * record_length b = grind arith in
    ap (λ (k : ℕ). take k (drop (record_at b first) b)) next ∙ take-add (record_length b) (count * record_length b) (drop (record_at b first) b)
    ∙ ap (λ (l : List ℕ). take (record_length b) (drop (record_at b first) b) ++ take (count * record_length b) l)
    (drop-add (record_at b first) (record_length b) b ∙ ap (λ (k : ℕ). drop k b) there)

-- a run of the file ends where the points end, or before
pub run_within : (b : List ℕ) (first count : ℕ) → points_end b ≤ length b → first + count ≤ record_count b → points_at b + first * record_length b + count * record_length b ≤ length b
unfolding points_end
run_within b first count whole inside =
    let more : (first + count) * record_length b ≤ record_count b * record_length b = mul-le-mul_right (record_length b) inside in
    let sum : (first + count) * record_length b ≡ first * record_length b + count * record_length b = grind arith in
    omega (arith, whole, more, sum)

-- a run that was copied out of the file's bytes
pub read_records-copied : (b bytes : List ℕ) (start first size count long : ℕ) → bytes ≡ b → start ≡ points_at b → size ≡ record_length b → long ≡ count * record_length b
    → take (start + first * size + long - (start + first * size)) (drop (start + first * size) bytes) ≡ read_records b first count
unfolding record_at
read_records-copied b bytes start first size count long all begin same whole =
    let n : start + first * size + long - (start + first * size) ≡ count * record_length b = omega (arith, whole) in
    let here : start + first * size ≡ points_at b + first * record_length b = ap (λ (k : ℕ). k + first * size) begin ∙ ap (λ (k : ℕ). points_at b + first * k) same in
    ap (λ (k : ℕ). take k (drop (start + first * size) bytes)) n ∙ ap (λ (k : ℕ). take (count * record_length b) (drop k bytes)) here
    ∙ ap (λ (l : List ℕ). take (count * record_length b) (drop (points_at b + first * record_length b) l)) all

-- a run whose first `done` records have their classes, and whose others are as read
abbrev pub half_saved : List ℕ → List ℕ → ℕ → ℕ → ℕ → List ℕ
half_saved b cs first count done = saved_records b cs first done ++ read_records b (first + done) (count - done)

-- the two parts, and the record between them
half_saved-parts : (b cs : List ℕ) (first count done : ℕ) → done < count
    → half_saved b cs first count done ≡ saved_records b cs first done ++ (record_bytes b (first + done) ++ read_records b (first + (done + 1)) (count - (done + 1)))
half_saved-parts b cs first count done more =
    let left : count - done ≡ suc (count - (done + 1)) = omega (arith, more) in
    let next : first + done + 1 ≡ first + (done + 1) = omega arith in
    ap (λ (l : List ℕ). saved_records b cs first done ++ l)
    (ap (read_records b (first + done)) left ∙ read_records-more b (first + done) (count - (done + 1))
    ∙ ap (λ (k : ℕ). record_bytes b (first + done) ++ read_records b k (count - (done + 1))) next)

-- a byte within the middle of three parts
middle_at : (xs ys zs : List ℕ) (n i : ℕ) → length xs ≡ n → i < length ys → get_or (xs ++ (ys ++ zs)) (n + i) 0 ≡ get_or ys i 0
middle_at xs ys zs n i size inside =
    let e : n + i - n ≡ i = omega arith in
    get_or-append_right xs (ys ++ zs) n (n + i) 0 size (omega arith) ∙ ap (λ (k : ℕ). get_or (ys ++ zs) k 0) e ∙ get_or_append_left ys zs 0 i inside

middle_set : (xs ys zs : List ℕ) (n i v : ℕ) → length xs ≡ n → i < length ys → set (xs ++ (ys ++ zs)) (n + i) v ≡ (xs ++ set ys i v) ++ zs
middle_set xs ys zs n i v size inside =
    let e : n + i - n ≡ i = omega arith in
    set-append_right xs (ys ++ zs) n (n + i) v size (omega arith) ∙ ap (λ (k : ℕ). xs ++ set (ys ++ zs) k v) e
    ∙ ap (λ (l : List ℕ). xs ++ l) (set-append_left ys zs i v inside) ∙ sym (append_assoc xs (set ys i v) zs)

-- one more record has its class
pub half_saved-more : (b cs : List ℕ) (first count done next at v : ℕ) → points_end b ≤ length b → class_place (format_of b) < record_length b → first + count ≤ record_count b → done < count → next ≡ suc done
    → at ≡ done * record_length b + class_place (format_of b)
    → v ≡ with_class (format_of b) (get_or (half_saved b cs first count done) at 0) (get_or cs (first + done) 0)
    → set (half_saved b cs first count done) at v ≡ half_saved b cs first count next
unfolding saved_record
half_saved-more b cs first count done next at v whole room inside more is here value =
    let place = class_place (format_of b) in
    let before = saved_records b cs first done in
    let this = record_bytes b (first + done) in
    let after = read_records b (first + (done + 1)) (count - (done + 1)) in
    let size : length before ≡ done * record_length b = length-saved_records b cs first done whole (omega (arith, inside, more)) in
    let bytes : place < length this = omega (arith, room, length-record_bytes b (first + done) whole (omega (arith, inside, more))) in
    let parts : half_saved b cs first count done ≡ before ++ (this ++ after) = half_saved-parts b cs first count done more in
    let byte : get_or (half_saved b cs first count done) at 0 ≡ get_or this place 0 =
    ap (λ (l : List ℕ). get_or l at 0) parts ∙ ap (λ (k : ℕ). get_or (before ++ (this ++ after)) k 0) here ∙ middle_at before this after (done * record_length b) place size bytes in
    let class : v ≡ with_class (format_of b) (get_or this place 0) (get_or cs (first + done) 0) = value ∙ ap (λ (k : ℕ). with_class (format_of b) k (get_or cs (first + done) 0)) byte in
    let later : done + 1 ≡ next = omega (arith, is) in
    ap (λ (l : List ℕ). set l at v) parts ∙ ap (λ (k : ℕ). set (before ++ (this ++ after)) k v) here ∙ middle_set before this after (done * record_length b) place v size bytes
    ∙ ap (λ (k : ℕ). (before ++ set this place k) ++ after) class
    ∙ ap (λ (l : List ℕ). l ++ after) (sym (saved_records-more b cs first done))
    ∙ ap (λ (k : ℕ). saved_records b cs first (suc done) ++ read_records b (first + k) (count - k)) later
    ∙ ap (λ (k : ℕ). saved_records b cs first k ++ read_records b (first + next) (count - next)) (sym is)
