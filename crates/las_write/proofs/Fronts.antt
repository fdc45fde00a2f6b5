-- What a sink got of a file that is given in parts.
use Rattle.std.proofs.Common.{◌≡◌, ℕ, ◌+◌, ◌-◌, ◌<◌, ◌≤◌, List, ◌++◌, length, take, drop, Option, Some, None, Result, Ok, Err, OnErr, arith, sym, ap, ◌∙◌, subst}
use Rattle.std.proofs.lemmas.List.{append_assoc, length-append, take-append-le}
use Rattle.std.proofs.Math.Seq.{take-append-add}
use Rattle.view_ends.specs.Ends.{Gains, GainsPart}
use Rattle.view_ends.proofs.Pieces.{gains_more}
use Rattle.view_meaning.specs.Classes.{saved}
use Rattle.view_meaning.specs.Survey.{points_at, points_end, record_count}
use Rattle.las_write.specs.Points.{HasPoints, saved_records}
use Rattle.las_write.proofs.Runs.{saved_records-append}
use Rattle.las_write.proofs.Saved.{saved-parts}

-- what holds, holds where there is an error
pub on_err : {T E P : Type 0} (r : Result T E) → P → OnErr r P
on_err (Ok x) holds = tt
on_err (Err e) holds = holds

-- a front of the first part is a front of the whole
pub part_of_first : (old new : Option (List ℕ)) (xs ys : List ℕ) → GainsPart old xs new → GainsPart old (xs ++ ys) new
part_of_first None new xs ys a = tt
part_of_first (Some all) new xs ys a =
    let less : a.0 < length xs = a.1 in
    (a.0, omega (arith, less, length-append xs ys), a.2 ∙ ap (λ (l : List ℕ). Some (all ++ l)) (sym (take-append-le a.0 xs ys (omega (arith, less)))))

-- the first part, and a front of the second
pub part_of_second : (old mid new : Option (List ℕ)) (xs ys : List ℕ) → Gains old xs mid → GainsPart mid ys new → GainsPart old (xs ++ ys) new
part_of_second None mid new xs ys a b = tt
part_of_second (Some all) mid new xs ys a b =
    let b' : GainsPart (Some (all ++ xs)) ys new = subst (λ m. GainsPart m ys new) a b in
    let less : b'.0 < length ys = b'.1 in (
      length xs + b'.0,
      omega (arith, less, length-append xs ys),
      b'.2 ∙ ap (λ (l : List ℕ). Some l) (append_assoc all xs (take b'.0 ys)) ∙ ap (λ (l : List ℕ). Some (all ++ l)) (sym (take-append-add xs ys b'.0)),
    )

-- the records so far, and a run after them
runs : (b cs : List ℕ) (given count : ℕ) → saved_records b cs 0 (given + count) ≡ saved_records b cs 0 given ++ saved_records b cs given count
runs b cs given count =
    let e : 0 + given ≡ given = omega arith in
    saved_records-append b cs 0 given count ∙ ap (λ (k : ℕ). saved_records b cs 0 given ++ saved_records b cs k count) e

pub got_run : (b cs piece : List ℕ) (old mid new : Option (List ℕ)) (given count : ℕ) → piece ≡ saved_records b cs given count
    → Gains old (saved_records b cs 0 given) mid → Gains mid piece new → Gains old (saved_records b cs 0 (given + count)) new
got_run b cs piece old mid new given count is before this =
    subst (λ l. Gains old l new) (sym (runs b cs given count))
    (gains_more old mid new (saved_records b cs 0 given) (saved_records b cs given count) before (subst (λ l. Gains mid l new) is this))

pub part_of_run : (b cs piece : List ℕ) (old mid new : Option (List ℕ)) (given count all : ℕ) → piece ≡ saved_records b cs given count → given + count ≤ all
    → Gains old (saved_records b cs 0 given) mid → GainsPart mid piece new → GainsPart old (saved_records b cs 0 all) new
part_of_run b cs piece old mid new given count all is within before this =
    let total : given + count + (all - (given + count)) ≡ all = omega (arith, within) in
    subst (λ (k : ℕ). GainsPart old (saved_records b cs 0 k) new) total
    (subst (λ l. GainsPart old l new) (sym (runs b cs (given + count) (all - (given + count))))
    (part_of_first old new (saved_records b cs 0 (given + count)) (saved_records b cs (given + count) (all - (given + count)))
    (subst (λ l. GainsPart old l new) (sym (runs b cs given count))
    (part_of_second old mid new (saved_records b cs 0 given) (saved_records b cs given count) before (subst (λ l. GainsPart mid l new) is this)))))

-- a front of what stands before the points
pub part_before_points : (b cs front : List ℕ) (old new : Option (List ℕ)) → HasPoints b → front ≡ take (points_at b) b → GainsPart old front new → GainsPart old (saved b cs) new
part_before_points b cs front old new there is this =
    subst (λ l. GainsPart old l new) (sym (saved-parts b cs there))
    (part_of_first old new (take (points_at b) b) (saved_records b cs 0 (record_count b) ++ drop (points_end b) b) (subst (λ l. GainsPart old l new) is this))

-- what stands before the points, and a front of the records
pub part_of_points : (b cs front : List ℕ) (old mid new : Option (List ℕ)) → HasPoints b → front ≡ take (points_at b) b
    → Gains old front mid → GainsPart mid (saved_records b cs 0 (record_count b)) new → GainsPart old (saved b cs) new
part_of_points b cs front old mid new there is before this =
    subst (λ l. GainsPart old l new) (sym (saved-parts b cs there))
    (part_of_second old mid new (take (points_at b) b) (saved_records b cs 0 (record_count b) ++ drop (points_end b) b) (subst (λ l. Gains old l mid) is before)
    (part_of_first mid new (saved_records b cs 0 (record_count b)) (drop (points_end b) b) this))

-- all up to the points' end, and a front of what stands after them
pub part_after_points : (b cs front back : List ℕ) (old mid next new : Option (List ℕ)) → HasPoints b → front ≡ take (points_at b) b → back ≡ drop (points_end b) b
    → Gains old front mid → Gains mid (saved_records b cs 0 (record_count b)) next → GainsPart next back new → GainsPart old (saved b cs) new
part_after_points b cs front back old mid next new there is last before points this =
    subst (λ l. GainsPart old l new) (sym (saved-parts b cs there))
    (part_of_second old mid new (take (points_at b) b) (saved_records b cs 0 (record_count b) ++ drop (points_end b) b) (subst (λ l. Gains old l mid) is before)
    (part_of_second mid next new (saved_records b cs 0 (record_count b)) (drop (points_end b) b) points (subst (λ l. GainsPart next l new) last this)))

-- all three parts
pub got_saved : (b cs front back : List ℕ) (old mid next new : Option (List ℕ)) → HasPoints b → front ≡ take (points_at b) b → back ≡ drop (points_end b) b
    → Gains old front mid → Gains mid (saved_records b cs 0 (record_count b)) next → Gains next back new → Gains old (saved b cs) new
got_saved b cs front back old mid next new there is last before points this =
    subst (λ l. Gains old l new) (sym (saved-parts b cs there))
    (gains_more old mid new (take (points_at b) b) (saved_records b cs 0 (record_count b) ++ drop (points_end b) b) (subst (λ l. Gains old l mid) is before)
    (gains_more mid next new (saved_records b cs 0 (record_count b)) (drop (points_end b) b) points (subst (λ l. Gains next l new) last this)))
