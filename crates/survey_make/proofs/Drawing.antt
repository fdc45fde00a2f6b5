-- Draws that go on from a state.
use Rattle.std.proofs.Common.{◌≡◌, ℕ, zero, suc, ◌+◌, ◌*◌, ◌%◌, ◌/◌, ◌^◌, List, [], ◌∷◌, ◌++◌, ◌∙◌, ap, refl, sym, arith}
use Rattle.std.specs.List.{range_with_len, flat_map}
use Rattle.std.proofs.lemmas.Grind.{flat_map-append}
use Rattle.std.proofs.lemmas.List.{append-nil, append_assoc}
use Rattle.view_meaning.proofs.Nearest.{range_more}
use Rattle.survey_make.specs.declared.draws.TheConstants.{MULTIPLIER, INCREMENT}
use Rattle.survey_make.specs.Made.{state, draw, record_bytes, made_record}

-- the generator's state after a draw
abbrev pub next : ℕ → ℕ
next u = (MULTIPLIER * u + INCREMENT) % 2 ^ 64

pub state-more : (start a b : ℕ) → state (state start a) b ≡ state start (a + b)
unfolding state
state-more start a zero =
    let same : a ≡ a + 0 = omega arith in
    ap (state start) same
state-more start a (suc b) =
    let same : suc (a + b) ≡ a + suc b = omega arith in
    ap next (state-more start a b) ∙ ap (state start) same

pub draw-more : (start a b k : ℕ) → a + b ≡ k → draw (state start a) b ≡ draw start k
unfolding draw
draw-more start a b k is = ap (λ (u : ℕ). u / 2 ^ 32) (state-more start a (b + 1) ∙ ap (state start) (omega (arith, is)))

-- a record of the numbers that the next draws give is record i, where 5 i draws were made
pub record_bytes-drawn : (start format i u x y z intensity class : ℕ) → u ≡ state start (5 * i)
    → x ≡ draw u 0 % 65536 → y ≡ draw u 1 % 65536 → z ≡ draw u 2 % 4096 → intensity ≡ draw u 3 % 65536 → class ≡ draw u 4 % 32
    → record_bytes format x y z intensity class ≡ made_record start format i
unfolding made_record
record_bytes-drawn start format i u x y z intensity class at first second third fourth fifth =
    rw (
      first,
      second,
      third,
      fourth,
      fifth,
      at,
      draw-more start (5 * i) 0 (5 * i) (omega arith),
      draw-more start (5 * i) 1 (5 * i + 1) refl,
      draw-more start (5 * i) 2 (5 * i + 2) refl,
      draw-more start (5 * i) 3 (5 * i + 3) refl,
      draw-more start (5 * i) 4 (5 * i + 4) refl,
    ) refl

-- the records after one more
pub records-more : (start format i : ℕ) (old before after more : List ℕ) → before ≡ old ++ flat_map (made_record start format) (range_with_len 0 i)
    → after ≡ before ++ more → more ≡ made_record start format i
    → after ≡ old ++ flat_map (made_record start format) (range_with_len 0 (i + 1))
records-more start format i old before after more were appended is =
    let f = made_record start format in
    let front = flat_map f (range_with_len 0 i) in
    let last : 0 + i ≡ i = omega arith in
    let one : i + 1 ≡ suc i = omega arith in
    let all : flat_map f (range_with_len 0 (i + 1)) ≡ front ++ f i =
    ap (λ (n : ℕ). flat_map f (range_with_len 0 n)) one ∙ ap (flat_map f) (range_more 0 i i last) ∙ flat_map-append f (range_with_len 0 i) (i ∷ []) ∙ ap (λ (xs : List ℕ). front ++ xs) (append-nil (f i)) in
    appended ∙ ap (λ (xs : List ℕ). xs ++ more) were ∙ ap (λ (xs : List ℕ). old ++ front ++ xs) is ∙ append_assoc old front (f i) ∙ ap (λ (xs : List ℕ). old ++ xs) (sym all)
