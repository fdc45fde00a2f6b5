-- Room for so many records of one length.
use Rattle.std.proofs.Common.{ℕ, suc, ◌+◌, ◌*◌, ◌<◌, ◌≤◌, arith}
use Rattle.std.proofs.Math.Nat.{suc-mul, mul-le-mul_right}

pub next_fits : (count k length before spare : ℕ) → count * length ≤ before → before ≤ spare + k * length → k < count → length ≤ spare
next_fits count k length before spare room left less =
    let next : suc k ≤ count = omega arith in
    let products = mul-le-mul_right length next in
    let one_more = suc-mul k length in
    omega (arith, products, one_more, room, left)

pub left-more : (k length before spare after : ℕ) → before ≤ spare + k * length → spare ≤ after + length → before ≤ after + (k + 1) * length
left-more k length before spare after left more =
    let one_more = suc-mul k length in
    omega (arith, one_more, left, more)
