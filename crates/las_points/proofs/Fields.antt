-- The fields of a record of a file, from the record's bytes.
use Rattle.std.proofs.Common.{◌≡◌, ℕ, zero, suc, IfSome, ◌+◌, ◌≤◌, ◌<◌, List, Bool, Option, Some, None, take, drop, refl, ap, ◌∙◌, arith}
use Rattle.std.specs.Option.{option_map}
use Rattle.std.proofs.lemmas.Bool.Decides.{nat_tests}
use Rattle.view_base.specs.declared.colour.Rgb.{Rgb}
use Rattle.view_meaning.specs.Layout.{least_length}
use Rattle.view_meaning.specs.Survey.{u8_at, u16_at, record_at, record_length, format_of, class_place, class_byte, intensity_of, rgb_place, rgb_at, is_withheld, withheld_of}
use Rattle.view_meaning.proofs.Reading.{u8_at_part, u16_at_part}

-- the intensity of a record, from its bytes
pub intensity-from_part : (b : List ℕ) (i : ℕ) (bytes : List ℕ) (n : ℕ) → 20 ≤ record_length b → bytes ≡ take (record_length b) (drop (record_at b i) b)
    → n ≡ u16_at bytes 12 → n ≡ intensity_of b i
unfolding intensity_of
intensity-from_part b i bytes n least taken read =
    read ∙ ap (λ (l : List ℕ). u16_at l 12) taken ∙ u16_at_part (record_at b i) (record_length b) 12 b (omega arith)

-- red, green and blue from a place of a record, from its bytes
rgb_at_part : (at size place : ℕ) (b : List ℕ) → place + 6 ≤ size → rgb_at (take size (drop at b)) place ≡ rgb_at b (at + place)
unfolding rgb_at
rgb_at_part at size place b fits =
    let red : u16_at (take size (drop at b)) place ≡ u16_at b (at + place) = u16_at_part at size place b (omega arith) in
    let second : at + (place + 2) ≡ at + place + 2 = omega arith in
    let third : at + (place + 4) ≡ at + place + 4 = omega arith in
    let green : u16_at (take size (drop at b)) (place + 2) ≡ u16_at b (at + place + 2) = u16_at_part at size (place + 2) b (omega arith) ∙ ap (u16_at b) second in
    let blue : u16_at (take size (drop at b)) (place + 4) ≡ u16_at b (at + place + 4) = u16_at_part at size (place + 4) b (omega arith) ∙ ap (u16_at b) third in
    cc (red, green, blue)

-- the formats one by one: whether red, green and blue are within the least length
within_each : (format : ℕ) → format ≤ 10 → IfSome (rgb_place format) (λ place. place + 6 ≤ least_length format)
within_each zero known = tt
within_each (suc zero) known = tt
within_each (suc (suc zero)) known = omega arith
within_each (suc (suc (suc zero))) known = omega arith
within_each (suc (suc (suc (suc zero)))) known = tt
within_each (suc (suc (suc (suc (suc zero))))) known = omega arith
within_each (suc (suc (suc (suc (suc (suc zero)))))) known = tt
within_each (suc (suc (suc (suc (suc (suc (suc zero))))))) known = omega arith
within_each (suc (suc (suc (suc (suc (suc (suc (suc zero)))))))) known = omega arith
within_each (suc (suc (suc (suc (suc (suc (suc (suc (suc zero))))))))) known = tt
within_each (suc (suc (suc (suc (suc (suc (suc (suc (suc (suc zero)))))))))) known = omega arith
within_each (suc (suc (suc (suc (suc (suc (suc (suc (suc (suc (suc format))))))))))) known = absurd (omega (arith, known))

-- where a format has red, green and blue, they are within its least length
pub rgb_place-within : (format place : ℕ) → rgb_place format ≡ Some place → format ≤ 10 → place + 6 ≤ least_length format
rgb_place-within format place at known = let all = within_each format known in rw at at all

rgb-from_place : (b : List ℕ) (i : ℕ) (place : Option ℕ) → ((at : ℕ) → place ≡ Some at → at + 6 ≤ record_length b)
    → option_map (rgb_at (take (record_length b) (drop (record_at b i) b))) place ≡ option_map (λ at. rgb_at b (record_at b i + at)) place
rgb-from_place b i None within = refl
rgb-from_place b i (Some at) within = ap Some (rgb_at_part (record_at b i) (record_length b) at b (within at refl))

-- red, green and blue of a record, from its bytes
pub rgb-from_part : (b : List ℕ) (i : ℕ) (bytes : List ℕ) (rgb : Option Rgb) → format_of b ≤ 10 → least_length (format_of b) ≤ record_length b
    → bytes ≡ take (record_length b) (drop (record_at b i) b) → rgb ≡ option_map (rgb_at bytes) (rgb_place (format_of b))
    → rgb ≡ option_map (λ at. rgb_at b (record_at b i + at)) (rgb_place (format_of b))
rgb-from_part b i bytes rgb known least taken read =
    read ∙ ap (λ (l : List ℕ). option_map (rgb_at l) (rgb_place (format_of b))) taken
    ∙ rgb-from_place b i (rgb_place (format_of b)) (λ at is. let within = rgb_place-within (format_of b) at is known in omega arith)

-- whether a record is withheld, from its bytes
pub withheld-from_part : (b : List ℕ) (i : ℕ) (bytes : List ℕ) (format : ℕ) (hidden : Bool) → format ≡ format_of b → 20 ≤ record_length b
    → bytes ≡ take (record_length b) (drop (record_at b i) b) → hidden ≡ is_withheld format (u8_at bytes 15) → hidden ≡ withheld_of b i
unfolding withheld_of
withheld-from_part b i bytes format hidden known least taken read =
    read ∙ ap (λ (k : ℕ). is_withheld k (u8_at bytes 15)) known ∙ ap (λ (l : List ℕ). is_withheld (format_of b) (u8_at l 15)) taken
    ∙ ap (is_withheld (format_of b)) (u8_at_part (record_at b i) (record_length b) 15 b (omega arith))

place_within : (format size : ℕ) → 20 ≤ size → class_place format < size
place_within format size least = grind (arith, nat_tests)

-- the byte of a record that has its class, from its bytes
pub class_byte-from_part : (b : List ℕ) (i : ℕ) (bytes : List ℕ) (place byte : ℕ) → place ≡ class_place (format_of b) → 20 ≤ record_length b
    → bytes ≡ take (record_length b) (drop (record_at b i) b) → byte ≡ u8_at bytes place → byte ≡ class_byte b i
unfolding class_byte
class_byte-from_part b i bytes place byte at least taken read =
    read ∙ ap (u8_at bytes) at ∙ ap (λ (l : List ℕ). u8_at l (class_place (format_of b))) taken
    ∙ u8_at_part (record_at b i) (record_length b) (class_place (format_of b)) b (place_within (format_of b) (record_length b) least)
