-- The corners of the first records, with one record more.
use Rattle.std.proofs.Common.{◌≡◌, ℕ, ◌+◌, ℤ, List, [], ◌∷◌, map, fold, Option, Some, None, ◌==◌, Bool, true, false, if◌then◌else◌, refl, sym, ◌∙◌, ap, arith}
use Rattle.std.specs.Int.{int_min, int_max}
use Rattle.std.proofs.lemmas.Bool.Decides.{nat_tests}
use Rattle.std.specs.List.{range_with_len}
use Rattle.std.proofs.lemmas.List.FromFn.{map-range_with_len_more}
use Rattle.std.proofs.lemmas.List.Sums.{fold-append}
use Rattle.view_base.specs.declared.place.Point.{Point}
use Rattle.view_base.specs.declared.place.Box3.{Box3}
use Rattle.view_meaning.specs.Survey.{point_of, record_count}
use Rattle.survey_info.specs.Corners.{picked}
use Rattle.survey_info.specs.Text.{extreme, corner, area_of}

extreme-more : (pick : ℤ → ℤ → ℤ) (f : ℕ → ℤ) (n : ℕ) → extreme pick f (n + 1) ≡ pick (extreme pick f n) (f n)
unfolding extreme
extreme-more pick f n = ap (fold pick (f 0)) (map-range_with_len_more f 0 n n (omega arith)) ∙ fold-append pick (f 0) (map f (range_with_len 0 n)) (f n ∷ [])

-- a corner begins as the first record
pub corner-begins : (pick : ℤ → ℤ → ℤ) (b : List ℕ) (p : Point) → p ≡ point_of b 0 → p ≡ corner pick b 0
unfolding extreme
corner-begins pick b p is = is

-- a corner with one more record
pub corner-more : (pick : ℤ → ℤ → ℤ) (b : List ℕ) (n m : ℕ) (old new p : Point) → m ≡ n + 1 → old ≡ corner pick b n → p ≡ point_of b n → new ≡ picked pick old p → new ≡ corner pick b m
corner-more pick b n m old new p next below is made =
    let x = extreme-more pick (λ i. (point_of b i).x) n in
    let y = extreme-more pick (λ i. (point_of b i).y) n in
    let z = extreme-more pick (λ i. (point_of b i).z) n in
    let more : picked pick (corner pick b n) (point_of b n) ≡ corner pick b (n + 1) = cc (x, y, z) in
    made ∙ ap (λ (q : Point). picked pick q p) below ∙ ap (picked pick (corner pick b n)) is ∙ more ∙ ap (corner pick b) (sym next)

-- no records have no box
pub area_of-none : (b : List ℕ) → record_count b ≡ 0 → area_of b ≡ None
unfolding area_of
area_of-none b none = let t : (record_count b == 0) ≡ true = grind (arith, nat_tests) in rw t refl

-- the box between two corners
abbrev some_box : Point → Point → Option Box3
some_box low high = Some (record { min = low; max = high })

-- the box of all records
pub area_of-some : (b : List ℕ) (n : ℕ) (low high : Point) → n ≡ record_count b → (record_count b ≡ 0 → ⊥) → low ≡ corner int_min b n → high ≡ corner int_max b n
    → some_box low high ≡ area_of b
unfolding area_of
area_of-some b n low high last some low_at high_at =
    let t : (record_count b == 0) ≡ false = grind (arith, nat_tests) in
    let low_is : low ≡ corner int_min b (record_count b) = low_at ∙ ap (corner int_min b) last in
    let high_is : high ≡ corner int_max b (record_count b) = high_at ∙ ap (corner int_max b) last in
    ap (λ (p : Point). some_box p high) low_is
    ∙ ap (some_box (corner int_min b (record_count b))) high_is
    ∙ sym (ap (λ (t : Bool). if t then None else some_box (corner int_min b (record_count b)) (corner int_max b (record_count b))) t)
