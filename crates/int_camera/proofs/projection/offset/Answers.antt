use Rattle.std.proofs.Common.{◌≡◌, ◌<◌, ◌≤◌, ◌*◌, ◌/◌, ℤ, pos, ◌+ℤ◌, ◌≤ℤ◌, ◌<ℤ◌, nat_abs, arith, rules, FitsSigned, w64}
use Rattle.std.proofs.lemmas.Int.{ints, to_z-of_z}
use Rattle.int_camera.proofs.Places.{from_edge-before, from_edge-inside, from_edge-past}
use Rattle.int_camera.proofs.projection.offset.Goals as goal

pub returns-then-offset-lt0-clause-beside : goal.returns-then-offset-lt0-clause-beside
returns-then-offset-lt0-clause-beside c =
    let t : ℤ = c.from_near_edge-offset.result in
    let fits = c.ranges.distance in
    let t_fits : FitsSigned w64 t = search rules in
    let e : t ≡ c.args.distance +ℤ pos (c.args.size / 2 * c.args.step) = simp to_z-of_z at c.from_near_edge-offset.ensures in
    let lt : t <ℤ pos 0 = grind (arith, ints, to_z-of_z, c.if-offset-lt0.true) in
    from_edge-before c.args.distance t c.args.step c.args.size (omega arith) e lt

pub returns-then-offset-from-clause-beside : goal.returns-then-offset-from-clause-beside
returns-then-offset-from-clause-beside c =
    let t : ℤ = c.from_near_edge-offset.result in
    let fits = c.ranges.distance in
    let t_fits : FitsSigned w64 t = search rules in
    let e : t ≡ c.args.distance +ℤ pos (c.args.size / 2 * c.args.step) = simp to_z-of_z at c.from_near_edge-offset.ensures in
    let low : pos 0 ≤ℤ t = grind (arith, ints, to_z-of_z, c.if-offset-lt0.false) in
    let reaches : c.args.size * c.args.step ≤ nat_abs t = rw (← c.from.ensures) (simp to_z-of_z at c.if-offset-from.true) in
    from_edge-past c.args.distance t c.args.step c.args.size (omega arith) e low reaches

pub returns-clause-inside : goal.returns-clause-inside
returns-clause-inside c =
    let t : ℤ = c.from_near_edge-offset.result in
    let fits = c.ranges.distance in
    let t_fits : FitsSigned w64 t = search rules in
    let e : t ≡ c.args.distance +ℤ pos (c.args.size / 2 * c.args.step) = simp to_z-of_z at c.from_near_edge-offset.ensures in
    let low : pos 0 ≤ℤ t = grind (arith, ints, to_z-of_z, c.if-offset-lt0.false) in
    let short : nat_abs t < c.args.size * c.args.step = rw (← c.from.ensures) (simp to_z-of_z at c.if-offset-from.false) in
    simp to_z-of_z (from_edge-inside c.args.distance t c.args.step c.args.size (omega arith) e low short)
