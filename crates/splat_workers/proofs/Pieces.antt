-- The pieces into which kept blocks are cut.
use Rattle.std.proofs.Common.{◌≡◌, ℕ, ◌+◌, ◌-◌, ◌*◌, ◌/◌, ◌%◌, ◌<◌, ◌≤◌, min, List, ◌++◌, length, length-take, length-drop, get_or, take, drop, slice_index, sym, ◌∙◌, ap, arith}
use Rattle.std.proofs.lemmas.List.{get_or-take, get_or-drop, get_or_default, take_min}
use Rattle.std.proofs.lemmas.Grind.{div_ceil_times}
use Rattle.std.proofs.Math.Nat.{mod-lt, div-add-mod', mul-le-mul_left, mul-le-mul_right, lt_of_mul-lt-mul_right}
use Rattle.std.specs.Int.{div_ceil}
use Rattle.std.specs.List.{Contains, flat_map}
use Rattle.splat_workers.specs.Drawing.{piece_blocks}
use Rattle.splat_workers.proofs.Plotting.{pairs-take}

-- the place of each kept block is in a piece
pub kept-piece : (kept : List ℕ) (step place : ℕ) → 1 ≤ step → place < length kept
    → (place / step < div_ceil (length kept) step) × Contains (piece_blocks kept step (place / step)) (slice_index kept place)
kept-piece kept step place some lt =
    let n : ℕ = place / step in
    let x : ℕ = slice_index kept place in
    let whole : n * step + place % step ≡ place = div-add-mod' place step in
    let rest : place % step < step = mod-lt place some in
    let all = (div_ceil_times (length kept) step some).0 in
    let below : n * step < div_ceil (length kept) step * step = omega (arith, whole, lt, all) in
    let size : length (piece_blocks kept step n) ≡ min step (length kept - n * step) = length-take step (drop (n * step) kept) ∙ ap (min step) (length-drop (n * step) kept) in
    let here : get_or (piece_blocks kept step n) (place % step) x ≡ x =
    get_or-take step (drop (n * step) kept) (place % step) x rest ∙ get_or-drop (n * step) kept (place % step) x
    ∙ ap (λ (k : ℕ). get_or kept k x) whole ∙ get_or_default kept place x 0 lt in
    (lt_of_mul-lt-mul_right step below, (place % step, omega (arith, size, whole, rest, lt), here))

-- each piece has a block
pub piece_within : (count step n : ℕ) → 1 ≤ step → n < div_ceil count step → n * step < count
piece_within count step n some lt =
    let all = (div_ceil_times count step some).1 in
    let next : (n + 1) * step ≤ div_ceil count step * step = mul-le-mul_right step (omega (arith, lt)) in
    let more : (n + 1) * step ≡ n * step + step = grind arith in
    omega (arith, all, next, more)

-- there are at most as many pieces as blocks
pub pieces_few : (count step : ℕ) → 1 ≤ step → div_ceil count step ≤ count
pieces_few count step some =
    let all = (div_ceil_times count step some).1 in
    let each : count * 1 ≤ count * step = mul-le-mul_left count some in
    let more : (count + 1) * step ≡ count * step + step = grind arith in
    let below : div_ceil count step * step < (count + 1) * step = omega (arith, all, each, more) in
    omega (arith, lt_of_mul-lt-mul_right step below)

-- the blocks of a piece end where it does or where the list does
pub whole_piece : (kept : List ℕ) (step first : ℕ) → take (min step (length kept - first)) (drop first kept) ≡ take step (drop first kept)
whole_piece kept step first = ap (λ (n : ℕ). take (min step n) (drop first kept)) (sym (length-drop first kept)) ∙ take_min step (drop first kept)

-- the pairs of one more block of a piece
pub pairs-piece : (f : ℕ → List (ℕ × ℕ)) (kept : List ℕ) (first place : ℕ) (new : List (ℕ × ℕ)) → first ≤ place → place < length kept → new ≡ f (slice_index kept place)
    → flat_map f (take (place - first) (drop first kept)) ++ new ≡ flat_map f (take (place + 1 - first) (drop first kept))
pairs-piece f kept first place new from lt is =
    let within : place - first < length (drop first kept) = omega (arith, from, lt, length-drop first kept) in
    let here : first + (place - first) ≡ place = omega (arith, from) in
    let next : place - first + 1 ≡ place + 1 - first = omega (arith, from) in
    let at : slice_index kept place ≡ get_or (drop first kept) (place - first) 0 = sym (get_or-drop first kept (place - first) 0 ∙ ap (λ (k : ℕ). get_or kept k 0) here) in
    pairs-take f (drop first kept) (place - first) new within (is ∙ ap f at) ∙ ap (λ (n : ℕ). flat_map f (take n (drop first kept))) next
