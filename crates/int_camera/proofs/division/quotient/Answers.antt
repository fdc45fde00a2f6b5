use Rattle.std.proofs.Common.{◌≡◌, ℕ, ◌+◌, ◌-◌, ◌*◌, ◌/◌, ◌^◌, ◌<◌, sym, arith, rules}
use Rattle.int_camera.proofs.Quotients.{reciprocal-mul, high-below, high-above, div-high, div-next}
use Rattle.int_camera.proofs.division.quotient.Goals as goal

pub overflow_sub-rest : goal.overflow_sub-rest
overflow_sub-rest c =
    let near = reciprocal-mul c.args.by c.requires.by in
    let m : ℕ = (2 ^ 64 - 1) / c.args.by in
    let e : c.carrying_mul-least.result.0 + c.carrying_mul-least.result.1 * 2 ^ 64 ≡ c.args.number * m = rw (← c.requires.reciprocal) (omega (arith, c.carrying_mul-least.ensures)) in
    high-below c.args.number c.args.by m c.carrying_mul-least.result.0 c.carrying_mul-least.result.1 near.0 e

pub returns-then-rest-by : goal.returns-then-rest-by
returns-then-rest-by c =
    let near = reciprocal-mul c.args.by c.requires.by in
    let m : ℕ = (2 ^ 64 - 1) / c.args.by in
    let e : c.carrying_mul-least.result.0 + c.carrying_mul-least.result.1 * 2 ^ 64 ≡ c.args.number * m = rw (← c.requires.reciprocal) (omega (arith, c.carrying_mul-least.ensures)) in
    let low = high-below c.args.number c.args.by m c.carrying_mul-least.result.0 c.carrying_mul-least.result.1 near.0 e in
    record { value = sym (div-high c.args.number c.args.by c.carrying_mul-least.result.1 low c.if-rest-by.true) }

pub returns-else-rest-by : goal.returns-else-rest-by
returns-else-rest-by c =
    let near = reciprocal-mul c.args.by c.requires.by in
    let m : ℕ = (2 ^ 64 - 1) / c.args.by in
    let e : c.carrying_mul-least.result.0 + c.carrying_mul-least.result.1 * 2 ^ 64 ≡ c.args.number * m = rw (← c.requires.reciprocal) (omega (arith, c.carrying_mul-least.ensures)) in
    let low_fits : c.carrying_mul-least.result.0 < 2 ^ 64 = search rules in
    let short = high-above c.args.number c.args.by m c.carrying_mul-least.result.0 c.carrying_mul-least.result.1 c.requires.by near.1 low_fits c.ranges.number.fits e in
    record { value = sym (div-next c.args.number c.args.by c.carrying_mul-least.result.1 c.requires.by (omega (arith, c.if-rest-by.false)) short) }
