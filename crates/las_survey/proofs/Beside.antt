-- What two files have in common that differ in the bytes of their points alone.
use Rattle.std.proofs.Common.{◌≡◌, ℕ, suc, ◌+◌, ◌*◌, ◌≤◌, ◌<◌, List, length, take, Bool, true, false, refl, ap, sym, ◌∙◌, arith}
use Rattle.std.specs.Prelude.{◌==◌, if◌then◌else◌, nat_le, slice_set}
use Rattle.std.proofs.lemmas.Bool.Decides.{nat_tests}
use Rattle.std.proofs.lemmas.List.{take-take, take-set-le, drop-set-lt, length-set}
use Rattle.std.proofs.Math.Nat.{mul-le-mul_right}
use Rattle.las_header.specs.declared.header.Header.{Header}
use Rattle.las_vlr.specs.declared.place.VlrPlace.{VlrPlace}
use Rattle.view_meaning.specs.Layout.{IsLaid, first_fault, header_faults, block_size}
use Rattle.view_meaning.specs.Survey.{u8_at, u32_at, u64_at, minor_of, header_size, points_at, vlr_count, format_of, record_length, record_count, evlrs_at, evlr_count, record_at, class_place, points_end}
use Rattle.las_survey.specs.Beside.{SameBesidePoints, SameFields, class_at}
use Rattle.las_survey.specs.Kept.{IsKept}
use Rattle.las_survey.proofs.Laid.{IsSound, laid-sound, laid-none, laid, long_records}
use Rattle.las_survey.proofs.Walks.{u8_at-front, u16_at-front, u32_at-front, u64_at-front, vlrs-same, evlrs-same}

least_block : (old middle : Bool) → 227 ≤ (if old then 227 else if middle then 235 else 375)
least_block true middle = omega arith
least_block false true = omega arith
least_block false false = omega arith

-- the header ends where the points begin or before
header_within : (b : List ℕ) → IsSound b → 227 ≤ points_at b
unfolding block_size
header_within b sound =
    let least = least_block (minor_of b == 2) (minor_of b == 3) in let block = sound.block in let after = sound.after in omega (arith, least, block, after)

newest_block : (minor : ℕ) → minor ≡ 4 → block_size minor ≡ 375
unfolding block_size
newest_block minor newest = rw newest refl

whole_header_within : (b : List ℕ) → IsSound b → minor_of b ≡ 4 → 375 ≤ points_at b
whole_header_within b sound newest =
    let size = newest_block (minor_of b) newest in let block = sound.block in let after = sound.after in omega (arith, size, block, after)

of_newest : (is : Bool) (x y : ℕ) → (is ≡ true → x ≡ y) → (if is then x else 0) ≡ (if is then y else 0)
of_newest true x y same = same refl
of_newest false x y same = refl

counted : (is : Bool) (x y p q : ℕ) → p ≡ q → (is ≡ true → x ≡ y) → (if (if is then x else 0) == 0 then p else x) ≡ (if (if is then y else 0) == 0 then q else y)
counted true x y p q old same = let s : x ≡ y = same refl in rw (s, old) refl
counted false x y p q old same = old

is_newest : (b : List ℕ) → (minor_of b == 4) ≡ true → minor_of b ≡ 4
is_newest b is = grind (arith, nat_tests)

-- the header's fields are the same
pub fields-beside : (b c : List ℕ) → IsSound b → SameBesidePoints b c → SameFields b c
unfolding record_count evlrs_at evlr_count
fields-beside b c sound beside =
    let n = points_at b in let front = beside.before in let room : 227 ≤ n = header_within b sound in
    let minor : minor_of c ≡ minor_of b = u8_at-front n 25 b c front (omega arith) in
    let newest : (minor_of b == 4) ≡ true → 375 ≤ n = (λ is. whole_header_within b sound (is_newest b is)) in
    let records : (minor_of b == 4) ≡ true → u64_at c 247 ≡ u64_at b 247 = (λ is. let large = newest is in u64_at-front n 247 b c front (omega arith)) in
    let at : (minor_of b == 4) ≡ true → u64_at c 235 ≡ u64_at b 235 = (λ is. let large = newest is in u64_at-front n 235 b c front (omega arith)) in
    let extended : (minor_of b == 4) ≡ true → u32_at c 243 ≡ u32_at b 243 = (λ is. let large = newest is in u32_at-front n 243 b c front (omega arith)) in
    record {
      minor = minor;
      size = u16_at-front n 94 b c front (omega arith);
      points = u32_at-front n 96 b c front (omega arith);
      vlrs = u32_at-front n 100 b c front (omega arith);
      format = u8_at-front n 104 b c front (omega arith);
      bytes_a_record = u16_at-front n 105 b c front (omega arith);
      records = rw minor (counted (minor_of b == 4) (u64_at c 247) (u64_at b 247) (u32_at c 107) (u32_at b 107) (u32_at-front n 107 b c front (omega arith)) records);
      extended_at = rw minor (of_newest (minor_of b == 4) (u64_at c 235) (u64_at b 235) at);
      extended = rw minor (of_newest (minor_of b == 4) (u32_at c 243) (u32_at b 243) extended);
    }

signature-same : (n : ℕ) (b c : List ℕ) → take n c ≡ take n b → 4 ≤ n → take 4 c ≡ take 4 b
signature-same n b c same fits = sym (shorter c) ∙ ap (take 4) same ∙ shorter b where
  shorter : (l : List ℕ) → take 4 (take n l) ≡ take 4 l
  shorter l = take-take 4 n l (omega arith)

header_faults-same : (b c : List ℕ) → IsSound b → SameBesidePoints b c → header_faults c ≡ header_faults b
unfolding header_faults
header_faults-same b c sound beside =
    let n = points_at b in let front = beside.before in let room : 227 ≤ n = header_within b sound in
    let size = beside.size in let fields = fields-beside b c sound beside in
    let begins : take 4 c ≡ take 4 b = signature-same n b c front (omega arith) in
    let major : u8_at c 24 ≡ u8_at b 24 = u8_at-front n 24 b c front (omega arith) in
    rw (size, begins, major, fields.minor, fields.size, fields.format, fields.bytes_a_record, fields.points) refl

-- where the points end
pub points_end-beside : (b c : List ℕ) → SameFields b c → points_end c ≡ points_end b
unfolding points_end
points_end-beside b c fields = rw (fields.points, fields.records, fields.bytes_a_record) refl

-- every place that the layout reads lies outside the points: a file that differs from one that is laid out
-- in the bytes of its points alone is laid out too
pub laid-beside : (b c : List ℕ) → IsLaid b → SameBesidePoints b c → IsLaid c
laid-beside b c is_laid beside =
    let sound = laid-sound b is_laid in let none = laid-none b is_laid in let fields = fields-beside b c sound beside in
    let end : points_end c ≡ points_end b = points_end-beside b c fields in
    let points : points_end b ≤ length b = sound.points in let size : length c ≡ length b = beside.size in
    let vlrs = (vlrs-same b c (header_size b) (points_at b) (vlr_count b) size beside.before none.vlrs).0 in
    let evlrs = (evlrs-same b c (evlrs_at b) (points_end b) (evlr_count b) size beside.after none.evlrs).0 in
    laid c (ap first_fault (header_faults-same b c sound beside) ∙ none.header)
    (rw (fields.size, fields.points, fields.vlrs) vlrs)
    (omega arith)
    (rw (fields.extended_at, end, fields.extended) evlrs)

-- what a survey's type keeps of one it keeps of the other
pub kept-beside : (b c : List ℕ) (h : Header) (vlrs evlrs : List VlrPlace) → IsKept b h vlrs evlrs → SameBesidePoints b c → IsKept c h vlrs evlrs
kept-beside b c h vlrs evlrs kept beside =
    let sound = laid-sound b kept.laid in let none = laid-none b kept.laid in let fields = fields-beside b c sound beside in
    let size : length c ≡ length b = beside.size in
    let places = (vlrs-same b c (header_size b) (points_at b) (vlr_count b) size beside.before none.vlrs).1 in
    let extended = (evlrs-same b c (evlrs_at b) (points_end b) (evlr_count b) size beside.after none.evlrs).1 in
    record {
      laid = laid-beside b c kept.laid beside;
      short = rw size kept.short;
      fields = record {
        minor = kept.fields.minor ∙ sym fields.minor;
        size = kept.fields.size ∙ sym fields.size;
        points_at = kept.fields.points_at ∙ sym fields.points;
        vlrs = kept.fields.vlrs ∙ sym fields.vlrs;
        format = kept.fields.format ∙ sym fields.format;
        bytes_a_record = kept.fields.bytes_a_record ∙ sym fields.bytes_a_record;
        records = kept.fields.records ∙ sym fields.records;
        evlrs_at = kept.fields.evlrs_at ∙ sym fields.extended_at;
        evlrs = kept.fields.evlrs ∙ sym fields.extended;
      };
      vlrs_are = rw (fields.size, fields.vlrs) (kept.vlrs_are ∙ sym places);
      evlrs_are = rw (fields.extended_at, fields.extended) (kept.evlrs_are ∙ sym extended);
    }

place_within : (format size : ℕ) → 20 ≤ size → class_place format < size
place_within format size long = place_low (nat_le format 5) where
  place_low : (low : Bool) → (if low then 15 else 16) < size
  place_low true = omega arith
  place_low false = omega arith

-- the class byte of a record lies between the points' begin and end
pub class_at-within : (b : List ℕ) (i : ℕ) → IsSound b → i < record_count b → (points_at b ≤ class_at b i) × (class_at b i < points_end b)
unfolding record_at points_end
class_at-within b i sound below =
    let counted : suc i * record_length b ≤ record_count b * record_length b = mul-le-mul_right (record_length b) (omega arith) in
    let place = place_within (format_of b) (record_length b) (long_records b sound) in
    (omega (arith, counted, place), omega (arith, counted, place))

-- a byte of the points was set
pub set-beside : (b : List ℕ) (at byte : ℕ) → points_at b ≤ at → at < points_end b → SameBesidePoints b (slice_set b at byte)
set-beside b at byte from below = record {
  size = length-set b at byte;
  before = take-set-le (points_at b) b at byte from;
  after = drop-set-lt (points_end b) b at byte below;
}

-- the class byte of a record was set
pub class-beside : (b : List ℕ) (i byte : ℕ) → IsSound b → i < record_count b → SameBesidePoints b (slice_set b (class_at b i) byte)
class-beside b i byte sound below = let within = class_at-within b i sound below in set-beside b (class_at b i) byte within.0 within.1

-- the place that a survey's own fields give for the class byte of a record
pub kept-class_at : (b inside : List ℕ) (h : Header) (vlrs evlrs : List VlrPlace) (i size place : ℕ) → IsKept inside h vlrs evlrs → inside ≡ b
    → size ≡ h.«length» → place ≡ class_place h.format → h.points_at + i * size + place ≡ class_at b i
unfolding record_at
kept-class_at b inside h vlrs evlrs i size place kept same long here =
    let first : h.points_at ≡ points_at b = kept.fields.points_at ∙ ap points_at same in
    let bytes : size ≡ record_length b = long ∙ kept.fields.bytes_a_record ∙ ap record_length same in
    let column : place ≡ class_place (format_of b) = here ∙ ap class_place (kept.fields.format ∙ ap format_of same) in
    rw (first, bytes, column) refl

-- a survey's list with a byte set at that place is the file with the class byte of the record set
pub kept-class_set : (b inside : List ℕ) (h : Header) (vlrs evlrs : List VlrPlace) (i size place byte : ℕ) (new : List ℕ) → IsKept inside h vlrs evlrs → inside ≡ b
    → size ≡ h.«length» → place ≡ class_place h.format → new ≡ slice_set inside (h.points_at + i * size + place) byte → new ≡ slice_set b (class_at b i) byte
kept-class_set b inside h vlrs evlrs i size place byte new kept same long here sets =
    sets ∙ ap (λ (l : List ℕ). slice_set l (h.points_at + i * size + place) byte) same
    ∙ ap (λ (k : ℕ). slice_set b k byte) (kept-class_at b inside h vlrs evlrs i size place kept same long here)
