-- What a file that is laid out has, and which condition's fault is the file's.
use Rattle.std.proofs.Common.{◌≡◌, ℕ, zero, suc, ◌+◌, ◌*◌, ◌^◌, ◌≤◌, ◌<◌, List, [], ◌∷◌, ◌++◌, length, Bool, true, false, refl, ◌∙◌, arith, Option, Some, None, get_or, rules, sym}
use Rattle.std.specs.Prelude.{nat_le}
use Rattle.std.proofs.Math.Nat.{mul-le-mul_left, mul-le-mul_right}
use Rattle.std.proofs.lemmas.List.Elements.{All-get_or}
use Rattle.std.proofs.lemmas.Bool.Decides.{nat_tests}
use Rattle.view_base.specs.declared.fault.SurveyFault.{SurveyFault}
use Rattle.view_base.specs.declared.fault.SurveyFault.TheVariants.{Header, Points}
use Rattle.view_base.specs.declared.fault.HeaderFault.TheVariants.{HeaderSize, Format, RecordLength, Offset}
use Rattle.view_meaning.specs.Layout.{fault, IsLaid, first_fault, unless, header_faults, vlr_fault, evlr_fault, least_length, block_size}
use Rattle.view_meaning.specs.Survey.{minor_of, header_size, points_at, vlr_count, format_of, record_length, record_count, evlrs_at, evlr_count, record_at, points_end}

first_fault-append-some : (faults others : List (Option SurveyFault)) (f : SurveyFault) → first_fault faults ≡ Some f → first_fault (faults ++ others) ≡ Some f
first_fault-append-some [] others f found = absurd (cc found)
first_fault-append-some (None ∷ faults) others f found = first_fault-append-some faults others f found
first_fault-append-some (Some g ∷ faults) others f found = found

first_fault-append-none : (faults others : List (Option SurveyFault)) → first_fault faults ≡ None → first_fault (faults ++ others) ≡ first_fault others
first_fault-append-none [] others none = refl
first_fault-append-none (None ∷ faults) others none = first_fault-append-none faults others none
first_fault-append-none (Some g ∷ faults) others none = absurd (cc none)

-- the fault of the header
pub fault-header : (b : List ℕ) (f : SurveyFault) → first_fault (header_faults b) ≡ Some f → fault b ≡ Some f
unfolding fault
fault-header b f found = first_fault-append-some (header_faults b) _ f found

-- the conditions after those on the header
rest : List ℕ → List (Option SurveyFault)
rest b = vlr_fault b (header_size b) (points_at b) (vlr_count b)
    ∷ unless (nat_le (points_end b) (length b)) (Points (points_end b) (length b))
    ∷ evlr_fault b (evlrs_at b) (points_end b) (evlr_count b)
    ∷ []

fault-rest : (b : List ℕ) → first_fault (header_faults b) ≡ None → fault b ≡ first_fault (rest b)
unfolding fault rest
fault-rest b none = first_fault-append-none (header_faults b) _ none

-- the fault of a variable length record
pub fault-vlr : (b : List ℕ) (f : SurveyFault) → first_fault (header_faults b) ≡ None → vlr_fault b (header_size b) (points_at b) (vlr_count b) ≡ Some f → fault b ≡ Some f
unfolding rest
fault-vlr b f header found = fault-rest b header ∙ rw found refl

within : (a n : ℕ) (f : SurveyFault) → a ≤ n → unless (nat_le a n) f ≡ None
within a n f small = let t : nat_le a n ≡ true = grind (arith, nat_tests) in rw t refl

beyond : (a n : ℕ) (f : SurveyFault) → n < a → unless (nat_le a n) f ≡ Some f
beyond a n f great = let t : nat_le a n ≡ false = grind (arith, nat_tests) in rw t refl

-- the fault of the points
pub fault-points : (b : List ℕ) → first_fault (header_faults b) ≡ None → vlr_fault b (header_size b) (points_at b) (vlr_count b) ≡ None → length b < points_end b
    → fault b ≡ Some (Points (points_end b) (length b))
unfolding rest
fault-points b header vlrs great =
    fault-rest b header ∙ rw (vlrs, beyond (points_end b) (length b) (Points (points_end b) (length b)) great) refl

-- the fault of an extended variable length record
pub fault-evlr : (b : List ℕ) (f : SurveyFault) → first_fault (header_faults b) ≡ None → vlr_fault b (header_size b) (points_at b) (vlr_count b) ≡ None → points_end b ≤ length b
    → evlr_fault b (evlrs_at b) (points_end b) (evlr_count b) ≡ Some f → fault b ≡ Some f
unfolding rest
fault-evlr b f header vlrs small found =
    fault-rest b header ∙ rw (vlrs, within (points_end b) (length b) (Points (points_end b) (length b)) small, found) refl

-- no fault
pub laid : (b : List ℕ) → first_fault (header_faults b) ≡ None → vlr_fault b (header_size b) (points_at b) (vlr_count b) ≡ None → points_end b ≤ length b
    → evlr_fault b (evlrs_at b) (points_end b) (evlr_count b) ≡ None → IsLaid b
unfolding rest IsLaid
laid b header vlrs small evlrs =
    fault-rest b header ∙ rw (vlrs, within (points_end b) (length b) (Points (points_end b) (length b)) small, evlrs) refl

-- the conditions that a file without a fault meets
pub record IsSound (b : List ℕ) : Type 0 where
  pub block : block_size (minor_of b) ≤ header_size b
  pub known : format_of b ≤ 10
  pub fitting : least_length (format_of b) ≤ record_length b
  pub after : header_size b ≤ points_at b
  pub points : points_end b ≤ length b

-- none of the conditions of a file without a fault has one
pub none-each : (faults : List (Option SurveyFault)) (i : ℕ) → first_fault faults ≡ None → get_or faults i None ≡ None
none-each [] i none = refl
none-each (None ∷ faults) zero none = refl
none-each (None ∷ faults) (suc i) none = none-each faults i none
none-each (Some f ∷ faults) i none = absurd (cc none)

-- a condition without a fault holds
pub met : (t : Bool) (f : SurveyFault) → unless t f ≡ None → t ≡ true
met true f none = refl
met false f none = absurd (cc none)

at_least : (a n : ℕ) (f : SurveyFault) → unless (nat_le a n) f ≡ None → a ≤ n
at_least a n f none = let t : nat_le a n ≡ true = met (nat_le a n) f none in grind (arith, nat_tests)

pub laid-sound : (b : List ℕ) → IsLaid b → IsSound b
unfolding IsLaid fault header_faults
laid-sound b none =
    let all : List (Option SurveyFault) = header_faults b ++ vlr_fault b (header_size b) (points_at b) (vlr_count b)
    ∷ unless (nat_le (points_end b) (length b)) (Points (points_end b) (length b))
    ∷ evlr_fault b (evlrs_at b) (points_end b) (evlr_count b)
    ∷ [] in
    record {
      block = at_least (block_size (minor_of b)) (header_size b) (Header (HeaderSize (header_size b))) (none-each all 4 none);
      known = at_least (format_of b) 10 (Header (Format (format_of b))) (none-each all 6 none);
      fitting = at_least (least_length (format_of b)) (record_length b) (Header (RecordLength (record_length b) (least_length (format_of b)))) (none-each all 7 none);
      after = at_least (header_size b) (points_at b) (Header (Offset (points_at b))) (none-each all 8 none);
      points = at_least (points_end b) (length b) (Points (points_end b) (length b)) (none-each all 10 none);
    }

fault-whole : (b : List ℕ) → fault b ≡ None → first_fault (header_faults b ++ rest b) ≡ None
unfolding fault rest
fault-whole b none = none

rest-vlrs : (b : List ℕ) → first_fault (rest b) ≡ None → vlr_fault b (header_size b) (points_at b) (vlr_count b) ≡ None
unfolding rest
rest-vlrs b none = none-each (rest b) 0 none

rest-evlrs : (b : List ℕ) → first_fault (rest b) ≡ None → evlr_fault b (evlrs_at b) (points_end b) (evlr_count b) ≡ None
unfolding rest
rest-evlrs b none = none-each (rest b) 2 none

none-front : (faults others : List (Option SurveyFault)) → first_fault (faults ++ others) ≡ None → first_fault faults ≡ None
none-front [] others none = refl
none-front (None ∷ faults) others none = none-front faults others none
none-front (Some f ∷ faults) others none = absurd (cc none)

-- the conditions of a file without a fault, by those on its header, on both kinds of records and on its points
pub record HasNoFault (b : List ℕ) : Type 0 where
  pub header : first_fault (header_faults b) ≡ None
  pub vlrs : vlr_fault b (header_size b) (points_at b) (vlr_count b) ≡ None
  pub evlrs : evlr_fault b (evlrs_at b) (points_end b) (evlr_count b) ≡ None

pub laid-none : (b : List ℕ) → IsLaid b → HasNoFault b
unfolding IsLaid
laid-none b none =
    let header : first_fault (header_faults b) ≡ None = (let n : first_fault (header_faults b ++ rest b) ≡ None = fault-whole b none in none-front (header_faults b) (rest b) n) in
    let others : first_fault (rest b) ≡ None = sym (fault-rest b header) ∙ none in
    record { header = header; vlrs = rest-vlrs b others; evlrs = rest-evlrs b others }

-- the least record length of each format is 20 or more
pub least_length-least : (format : ℕ) → format ≤ 10 → 20 ≤ least_length format
least_length-least format known =
    All-get_or (λ n. 20 ≤ n) (20 ∷ 28 ∷ 26 ∷ 34 ∷ 57 ∷ 63 ∷ 30 ∷ 36 ∷ 38 ∷ 59 ∷ 67 ∷ []) format 0 (omega arith) (search rules)

-- each record has 20 bytes or more
pub long_records : (b : List ℕ) → IsSound b → 20 ≤ record_length b
long_records b sound =
    let least = least_length-least (format_of b) sound.known in
    let fitting : least_length (format_of b) ≤ record_length b = sound.fitting in
    omega arith

-- a record of a file ends where the points end or before
pub record-within : (b : List ℕ) (i : ℕ) → IsSound b → i < record_count b → record_at b i + record_length b ≤ length b
unfolding record_at points_end
record-within b i sound below =
    let counted : suc i * record_length b ≤ record_count b * record_length b = mul-le-mul_right (record_length b) (omega arith) in
    let points : points_at b + record_count b * record_length b ≤ length b = sound.points in
    omega (arith, counted, points)

-- as many records as 2^30 bytes have room for
pub few_records : (b : List ℕ) → IsSound b → length b ≤ 2 ^ 30 → record_count b ≤ 53687091
unfolding points_end
few_records b sound short =
    let counted : record_count b * 20 ≤ record_count b * record_length b = mul-le-mul_left (record_count b) (long_records b sound) in
    let points : points_at b + record_count b * record_length b ≤ length b = sound.points in
    omega (arith, counted, points)
