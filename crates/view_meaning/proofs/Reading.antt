-- Numbers at offsets in a part of a file.
use Rattle.std.proofs.Common.{◌≡◌, ℕ, zero, suc, ◌+◌, ◌*◌, ◌≤◌, ◌<◌, List, get_or, take, drop, refl, ap, ◌∙◌, arith}
use Rattle.view_base.specs.declared.place.Point.{Point}
use Rattle.std.proofs.lemmas.List.{get_or-drop, get_or-take}
use Rattle.byteorder.specs.Endian.{little_from, little_number}
use Rattle.view_meaning.specs.Survey.{u8_at, u16_at, u32_at, u64_at, i32_at, record_at, record_length, point_of}
use Rattle.std.specs.Int.{cast_signed, w32}

pub little_from-drop : (i n k : ℕ) (b : List ℕ) → little_from i n (drop k b) ≡ little_from (k + i) n b
little_from-drop i zero k b = refl
little_from-drop i (suc n) k b =
    let next : k + suc i ≡ suc (k + i) = omega arith in
    let rest : little_from (suc i) n (drop k b) ≡ little_from (suc (k + i)) n b = little_from-drop (suc i) n k b ∙ ap (λ (m : ℕ). little_from m n b) next in
    ap (λ (m : ℕ). m + 256 * little_from (suc i) n (drop k b)) (get_or-drop k b i 0) ∙ ap (λ (m : ℕ). get_or b (k + i) 0 + 256 * m) rest

pub little_from-take : (i n m : ℕ) (b : List ℕ) → i + n ≤ m → little_from i n (take m b) ≡ little_from i n b
little_from-take i zero m b fits = refl
little_from-take i (suc n) m b fits =
    ap (λ (k : ℕ). k + 256 * little_from (suc i) n (take m b)) (get_or-take m b i 0 (omega arith))
    ∙ ap (λ (k : ℕ). get_or b i 0 + 256 * k) (little_from-take (suc i) n m b (omega arith))

-- a number in the n bytes from a place on
in_part : (at n i m : ℕ) (b : List ℕ) → i + m ≤ n → little_from i m (take n (drop at b)) ≡ little_from (at + i) m b
in_part at n i m b fits = little_from-take i m n (drop at b) fits ∙ little_from-drop i m at b

-- the number that the first bytes of a part are
from_part : (at n m : ℕ) (b : List ℕ) → m ≤ n → little_number m (take n (drop at b)) ≡ little_from at m b
from_part at n m b fits = in_part at n 0 m b (omega arith) ∙ ap (λ (k : ℕ). little_from k m b) (omega arith)

pub u16_at-from_part : (at n : ℕ) (b : List ℕ) → 2 ≤ n → little_number 2 (take n (drop at b)) ≡ u16_at b at
unfolding u16_at
u16_at-from_part at n b fits = from_part at n 2 b fits

pub u32_at-from_part : (at n : ℕ) (b : List ℕ) → 4 ≤ n → little_number 4 (take n (drop at b)) ≡ u32_at b at
unfolding u32_at
u32_at-from_part at n b fits = from_part at n 4 b fits

pub u64_at-from_part : (at n : ℕ) (b : List ℕ) → 8 ≤ n → little_number 8 (take n (drop at b)) ≡ u64_at b at
unfolding u64_at
u64_at-from_part at n b fits = from_part at n 8 b fits

pub i32_at-from_part : (at n : ℕ) (b : List ℕ) → 4 ≤ n → cast_signed w32 (little_number 4 (take n (drop at b))) ≡ i32_at b at
unfolding i32_at
i32_at-from_part at n b fits = ap (cast_signed w32) (from_part at n 4 b fits)

-- how a number that is read from the front of a part is the number at its place
pub ruleset numbers = (u16_at-from_part, u32_at-from_part, u64_at-from_part)

pub u8_at_part : (at n i : ℕ) (b : List ℕ) → i < n → u8_at (take n (drop at b)) i ≡ u8_at b (at + i)
unfolding u8_at
u8_at_part at n i b fits = get_or-take n (drop at b) i 0 fits ∙ get_or-drop at b i 0

pub u16_at_part : (at n i : ℕ) (b : List ℕ) → i + 2 ≤ n → u16_at (take n (drop at b)) i ≡ u16_at b (at + i)
unfolding u16_at
u16_at_part at n i b fits = in_part at n i 2 b fits

pub i32_at_part : (at n i : ℕ) (b : List ℕ) → i + 4 ≤ n → i32_at (take n (drop at b)) i ≡ i32_at b (at + i)
unfolding i32_at
i32_at_part at n i b fits = ap (cast_signed w32) (in_part at n i 4 b fits)

-- the point of a record, from its bytes
pub point-from_part : (b : List ℕ) (i : ℕ) (bytes : List ℕ) (p : Point) → 20 ≤ record_length b → bytes ≡ take (record_length b) (drop (record_at b i) b)
    → p ≡ record { x = i32_at bytes 0; y = i32_at bytes 4; z = i32_at bytes 8 } → p ≡ point_of b i
unfolding point_of
point-from_part b i bytes p least taken read =
    let here : record_at b i + 0 ≡ record_at b i = omega arith in
    let part = take (record_length b) (drop (record_at b i) b) in
    let x : i32_at part 0 ≡ i32_at b (record_at b i) = i32_at_part (record_at b i) (record_length b) 0 b (omega arith) ∙ ap (i32_at b) here in
    let y : i32_at part 4 ≡ i32_at b (record_at b i + 4) = i32_at_part (record_at b i) (record_length b) 4 b (omega arith) in
    let z : i32_at part 8 ≡ i32_at b (record_at b i + 8) = i32_at_part (record_at b i) (record_length b) 8 b (omega arith) in
    cc (read, taken, x, y, z)
