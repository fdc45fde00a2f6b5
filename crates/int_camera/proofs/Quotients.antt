-- A quotient from the high word of the number times a reciprocal of the divisor.
use Rattle.std.proofs.Common.{◌≡◌, ℕ, suc, ◌+◌, ◌-◌, ◌*◌, ◌/◌, ◌%◌, ◌^◌, ◌<◌, ◌≤◌, mul-le-mul, sym, ◌∙◌, ap, arith}
use Rattle.std.proofs.lemmas.Nat.{div-mul-add, div-add-mod', mod_below}

-- the whole of a reciprocal's word lies less than a divisor above the reciprocal times the divisor
pub reciprocal-mul : (by : ℕ) → 1 ≤ by → ((2 ^ 64 - 1) / by * by ≤ 2 ^ 64 - 1) × (2 ^ 64 ≤ (2 ^ 64 - 1) / by * by + by)
reciprocal-mul by h =
    let whole : (2 ^ 64 - 1) / by * by + (2 ^ 64 - 1) % by ≡ 2 ^ 64 - 1 = div-add-mod' (2 ^ 64 - 1) by in
    let rest : (2 ^ 64 - 1) % by < by = mod_below (2 ^ 64 - 1) by (omega arith) in
    (omega (arith, whole), omega (arith, whole, rest))

-- the high word is no more than the quotient
pub high-below : (n by m low high : ℕ) → m * by ≤ 2 ^ 64 - 1 → low + high * 2 ^ 64 ≡ n * m → high * by ≤ n
high-below n by m low high small e =
    let scaled : n * (m * by) ≤ n * (2 ^ 64 - 1) = mul-le-mul (omega arith) small in
    let turned : n * m * by ≡ n * (m * by) = omega arith in
    let split : (low + high * 2 ^ 64) * by ≡ n * m * by = ap (λ (p : ℕ). p * by) e in
    let parts : (low + high * 2 ^ 64) * by ≡ low * by + high * by * 2 ^ 64 = omega arith in
    omega (arith, scaled, turned, split, parts)

-- and no less than one below it
pub high-above : (n by m low high : ℕ) → 1 ≤ by → 2 ^ 64 ≤ m * by + by → low < 2 ^ 64 → n < 2 ^ 64 → low + high * 2 ^ 64 ≡ n * m → n < high * by + by + by
high-above n by m low high h large short fits e =
    let scaled : n * 2 ^ 64 ≤ n * (m * by + by) = mul-le-mul (omega arith) large in
    let turned : n * (m * by + by) ≡ n * m * by + n * by = omega arith in
    let split : (low + high * 2 ^ 64) * by ≡ n * m * by = ap (λ (p : ℕ). p * by) e in
    let parts : (low + high * 2 ^ 64) * by ≡ low * by + high * by * 2 ^ 64 = omega arith in
    let low_small : suc low * by ≤ 2 ^ 64 * by = mul-le-mul short (omega arith) in
    let number_small : suc n * by ≤ 2 ^ 64 * by = mul-le-mul fits (omega arith) in
    let low_more : suc low * by ≡ low * by + by = omega arith in
    let number_more : suc n * by ≡ n * by + by = omega arith in
    omega (arith, h, scaled, turned, split, parts, low_small, number_small, low_more, number_more)

-- where what is left over is less than the divisor the high word is the quotient
pub div-high : (n by high : ℕ) → high * by ≤ n → n - high * by < by → n / by ≡ high
div-high n by high low short =
    let whole : high * by + (n - high * by) ≡ n = omega (arith, low) in
    ap (λ (i : ℕ). i / by) (sym whole) ∙ div-mul-add high by (n - high * by) short

-- else the quotient is one more
pub div-next : (n by high : ℕ) → 1 ≤ by → by ≤ n - high * by → n < high * by + by + by → n / by ≡ high + 1
div-next n by high h more short =
    let step : (high + 1) * by ≡ high * by + by = omega arith in
    let rest : n - (high + 1) * by < by = omega (arith, h, step, more, short) in
    div-high n by (high + 1) (omega (arith, h, step, more)) rest
