-- What is made of a number is laid out as a survey.
use Rattle.std.proofs.Math.Nat.{suc-mul}
use Rattle.std.proofs.Common.{◌≡◌, ℕ, zero, suc, ◌+◌, ◌*◌, ◌≤◌, ◌<◌, ◌^◌, List, [], ◌∷◌, length, length-append, ◌∙◌, ap, refl, arith, None, Option}
use Rattle.std.specs.List.{range_with_len, flat_map, starts_with}
use Rattle.view_meaning.specs.Survey.{u8_at, u16_at, u32_at, u64_at, minor_of, header_size, points_at, vlr_count, format_of, record_length, evlr_count, record_count, points_end}
use Rattle.std.specs.Prelude.{Bool, true, nat_eq, codes}
use Rattle.std.proofs.lemmas.Bool.{le-leb, lt-ltb, ne_eqb}
use Rattle.view_base.specs.declared.fault.SurveyFault.{SurveyFault}
use Rattle.view_meaning.specs.Layout.{least_length, block_size, first_fault, unless, header_faults, vlr_fault, evlr_fault, fault, IsLaid}
use Rattle.survey_make.specs.Made.{made, made_header, made_record, record_bytes, place_bytes, behind_class}

signed : (start n f : ℕ) → starts_with nat_eq (made start n f) (codes "LASF") ≡ true
unfolding made made_header
signed start n f = refl

read_version : (start n f : ℕ) → (u8_at (made start n f) 24 ≡ 1) × (minor_of (made start n f) ≡ 4)
unfolding made made_header u8_at
read_version start n f = (refl, refl)

read_sizes : (start n f : ℕ) → (header_size (made start n f) ≡ 375) × (points_at (made start n f) ≡ 375)
unfolding made made_header u16_at u32_at
read_sizes start n f = (refl, refl)

read_vlrs : (start n f : ℕ) → vlr_count (made start n f) ≡ 0
unfolding made made_header u32_at
read_vlrs start n f = refl

pub read_format : (start n f : ℕ) → format_of (made start n f) ≡ f
unfolding made made_header u8_at
read_format start n f = refl

read_evlrs : (start n f : ℕ) → evlr_count (made start n f) ≡ 0
unfolding made made_header u8_at u32_at evlr_count
read_evlrs start n f = refl

pub read_length : (start n f : ℕ) → least_length f < 2 ^ 16 → record_length (made start n f) ≡ least_length f
unfolding made made_header u16_at
read_length start n f fits = omega (arith, fits)

pub read_count : (start n f : ℕ) → n < 2 ^ 64 → u64_at (made start n f) 247 ≡ n
unfolding made made_header u64_at
read_count start n f fits = omega (arith, fits)

-- a record has the format's least length
length-record_bytes : (f x y z intensity class : ℕ) → f ≤ 10 → length (record_bytes f x y z intensity class) ≡ least_length f
unfolding record_bytes place_bytes behind_class
length-record_bytes zero x y z intensity class known = refl
length-record_bytes (suc zero) x y z intensity class known = refl
length-record_bytes (suc (suc zero)) x y z intensity class known = refl
length-record_bytes (suc (suc (suc zero))) x y z intensity class known = refl
length-record_bytes (suc (suc (suc (suc zero)))) x y z intensity class known = refl
length-record_bytes (suc (suc (suc (suc (suc zero))))) x y z intensity class known = refl
length-record_bytes (suc (suc (suc (suc (suc (suc zero)))))) x y z intensity class known = refl
length-record_bytes (suc (suc (suc (suc (suc (suc (suc zero))))))) x y z intensity class known = refl
length-record_bytes (suc (suc (suc (suc (suc (suc (suc (suc zero)))))))) x y z intensity class known = refl
length-record_bytes (suc (suc (suc (suc (suc (suc (suc (suc (suc zero))))))))) x y z intensity class known = refl
length-record_bytes (suc (suc (suc (suc (suc (suc (suc (suc (suc (suc zero)))))))))) x y z intensity class known = refl
length-record_bytes (suc (suc (suc (suc (suc (suc (suc (suc (suc (suc (suc f))))))))))) x y z intensity class known = absurd (omega (arith, known))

-- a format's least length is between 20 and 67
lengths : (f : ℕ) → f ≤ 10 → (20 ≤ least_length f) × (least_length f ≤ 67)
lengths zero known = (omega arith, omega arith)
lengths (suc zero) known = (omega arith, omega arith)
lengths (suc (suc zero)) known = (omega arith, omega arith)
lengths (suc (suc (suc zero))) known = (omega arith, omega arith)
lengths (suc (suc (suc (suc zero)))) known = (omega arith, omega arith)
lengths (suc (suc (suc (suc (suc zero))))) known = (omega arith, omega arith)
lengths (suc (suc (suc (suc (suc (suc zero)))))) known = (omega arith, omega arith)
lengths (suc (suc (suc (suc (suc (suc (suc zero))))))) known = (omega arith, omega arith)
lengths (suc (suc (suc (suc (suc (suc (suc (suc zero)))))))) known = (omega arith, omega arith)
lengths (suc (suc (suc (suc (suc (suc (suc (suc (suc zero))))))))) known = (omega arith, omega arith)
lengths (suc (suc (suc (suc (suc (suc (suc (suc (suc (suc zero)))))))))) known = (omega arith, omega arith)
lengths (suc (suc (suc (suc (suc (suc (suc (suc (suc (suc (suc f))))))))))) known = absurd (omega (arith, known))

length-flat_map_each : (f : ℕ → List ℕ) (size a n : ℕ) → ((k : ℕ) → length (f k) ≡ size) → length (flat_map f (range_with_len a n)) ≡ n * size
length-flat_map_each f size a zero each = let none : 0 ≡ 0 * size = omega arith in none
length-flat_map_each f size a (suc n) each =
    let next : size + n * size ≡ suc n * size = omega (arith, suc-mul n size) in
    length-append (f a) (flat_map f (range_with_len (a + 1) n)) ∙ ap (λ (k : ℕ). k + length (flat_map f (range_with_len (a + 1) n))) (each a)
    ∙ ap (λ (k : ℕ). size + k) (length-flat_map_each f size (a + 1) n each) ∙ next

length-made_record : (start f i : ℕ) → f ≤ 10 → length (made_record start f i) ≡ least_length f
unfolding made_record
length-made_record start f i known = length-record_bytes f _ _ _ _ _ known

pub length-made : (start n f : ℕ) → f ≤ 10 → length (made start n f) ≡ 375 + n * least_length f
unfolding made made_header
length-made start n f known =
    length-append (made_header f n) (flat_map (made_record start f) (range_with_len 0 n))
    ∙ ap (λ (k : ℕ). 375 + k) (length-flat_map_each (made_record start f) (least_length f) 0 n (λ i. length-made_record start f i known))

read_legacy : (start n f : ℕ) → u32_at (made start n f) 107 ≡ 0
unfolding made made_header u32_at
read_legacy start n f = refl

count-made : (start n f : ℕ) → n < 2 ^ 64 → record_count (made start n f) ≡ n
unfolding record_count
count-made start zero f fits = rw ((read_version start 0 f).1, read_count start 0 f fits) (read_legacy start 0 f)
count-made start (suc n) f fits = rw ((read_version start (suc n) f).1, read_count start (suc n) f fits, ne_eqb (suc n) 0 (λ same. omega (arith, same))) refl

end-made : (start n f : ℕ) → f ≤ 10 → n < 2 ^ 64 → points_end (made start n f) ≡ length (made start n f)
unfolding points_end
end-made start n f known fits =
    let size = lengths f known in
    rw ((read_sizes start n f).1, count-made start n f fits, read_length start n f (omega (arith, size.1)), length-made start n f known) refl

unless-true : (holds : Bool) (fault : SurveyFault) → holds ≡ true → unless holds fault ≡ None
unless-true holds fault is = rw (is) refl

none_of_12 : (a b d e f g h i j k l m : Option SurveyFault) → a ≡ None → b ≡ None → d ≡ None → e ≡ None → f ≡ None → g ≡ None → h ≡ None → i ≡ None
    → j ≡ None → k ≡ None → l ≡ None → m ≡ None
    → first_fault (a ∷ b ∷ d ∷ e ∷ f ∷ g ∷ h ∷ i ∷ j ∷ k ∷ l ∷ m ∷ []) ≡ None
none_of_12 a b d e f g h i j k l m pa pb pd pe pf pg ph pi pj pk pl pm = rw (pa, pb, pd, pe, pf, pg, ph, pi, pj, pk, pl, pm) refl

pub laid-made : (start n f : ℕ) → f ≤ 10 → n < 2 ^ 64 → IsLaid (made start n f)
unfolding IsLaid fault header_faults vlr_fault evlr_fault block_size
laid-made start n f known fits =
    let b = made start n f in
    let long = length-made start n f known in
    let version = read_version start n f in
    let sizes = read_sizes start n f in
    let format = read_format start n f in
    let size = lengths f known in
    none_of_12 _ _ _ _ _ _ _ _ _ _ _ _
    (unless-true _ _ (le-leb 227 (length b) (omega (arith, long))))
    (unless-true _ _ (signed start n f))
    (unless-true _ _ (rw (version.0, version.1) refl))
    (unless-true _ _ (rw (version.1) (le-leb 375 (length b) (omega (arith, long)))))
    (unless-true _ _ (rw (version.1, sizes.0) refl))
    (unless-true _ _ (rw (format) (lt-ltb f 128 (omega (arith, known)))))
    (unless-true _ _ (rw (format) (le-leb f 10 known)))
    (unless-true _ _ (rw (format, read_length start n f (omega (arith, size.1))) (le-leb (least_length f) (least_length f) (omega arith))))
    (unless-true _ _ (rw (sizes.0, sizes.1) refl))
    (rw (read_vlrs start n f) refl)
    (unless-true _ _ (rw (end-made start n f known fits) (le-leb (length b) (length b) (omega arith))))
    (rw (read_evlrs start n f) refl)
