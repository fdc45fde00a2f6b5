use Rattle.std.proofs.Common.{◌≡◌, ◌+ℤ◌, ◌*ℤ◌, FitsSigned, w32, refl, arith, rules}
use Rattle.std.proofs.lemmas.Int.{ints, to_z-of_z}
use mir.Syntax.{w128}
use Rattle.int_camera.proofs.half_space.past_eye.Goals as goal

pub overflow_add-result : goal.overflow_add-result
overflow_add-result c =
    let x : FitsSigned w128 c.along.result = omega (arith, ints, c.along.ensures.bounds) in
    let y : FitsSigned w128 c.along-2.result = omega (arith, ints, c.along-2.ensures.bounds) in
    let xy : FitsSigned w128 (c.along.result +ℤ c.along-2.result) = omega (arith, ints, c.along.ensures.bounds, c.along-2.ensures.bounds) in
    simp to_z-of_z xy

pub overflow_add-result-2 : goal.overflow_add-result-2
overflow_add-result-2 c =
    let x : FitsSigned w128 c.along.result = omega (arith, ints, c.along.ensures.bounds) in
    let y : FitsSigned w128 c.along-2.result = omega (arith, ints, c.along-2.ensures.bounds) in
    let z : FitsSigned w128 c.along-3.result = omega (arith, ints, c.along-3.ensures.bounds) in
    let xy : FitsSigned w128 (c.along.result +ℤ c.along-2.result) = omega (arith, ints, c.along.ensures.bounds, c.along-2.ensures.bounds) in
    let xyz : FitsSigned w128 (c.along.result +ℤ c.along-2.result +ℤ c.along-3.result) = omega (arith, ints, c.along.ensures.bounds, c.along-2.ensures.bounds, c.along-3.ensures.bounds) in
    simp to_z-of_z xyz

pub overflow_add-result-3 : goal.overflow_add-result-3
overflow_add-result-3 c =
    let x : FitsSigned w128 c.along.result = omega (arith, ints, c.along.ensures.bounds) in
    let y : FitsSigned w128 c.along-2.result = omega (arith, ints, c.along-2.ensures.bounds) in
    let z : FitsSigned w128 c.along-3.result = omega (arith, ints, c.along-3.ensures.bounds) in
    let far = c.ranges.far in
    let xy : FitsSigned w128 (c.along.result +ℤ c.along-2.result) = omega (arith, ints, c.along.ensures.bounds, c.along-2.ensures.bounds) in
    let xyz : FitsSigned w128 (c.along.result +ℤ c.along-2.result +ℤ c.along-3.result) = omega (arith, ints, c.along.ensures.bounds, c.along-2.ensures.bounds, c.along-3.ensures.bounds) in
    let all : FitsSigned w128 (c.along.result +ℤ c.along-2.result +ℤ c.along-3.result +ℤ c.args.far) = omega (arith, ints, c.along.ensures.bounds, c.along-2.ensures.bounds, c.along-3.ensures.bounds, c.requires.far) in
    simp to_z-of_z all

pub returns : goal.returns
returns c =
    let nx_fits = c.ranges.nx in
    let ny_fits = c.ranges.ny in
    let nz_fits = c.ranges.nz in
    let far = c.ranges.far in
    let nx_wide : FitsSigned w128 c.args.nx = omega (arith, ints, c.requires.nx) in
    let ny_wide : FitsSigned w128 c.args.ny = omega (arith, ints, c.requires.ny) in
    let nz_wide : FitsSigned w128 c.args.nz = omega (arith, ints, c.requires.nz) in
    let ex_fits : FitsSigned w32 c.args.eye.now.x = search rules in
    let ey_fits : FitsSigned w32 c.args.eye.now.y = search rules in
    let ez_fits : FitsSigned w32 c.args.eye.now.z = search rules in
    let nx : c.from.result ≡ c.args.nx = simp to_z-of_z at c.from.ensures in
    let ny : c.from-2.result ≡ c.args.ny = simp to_z-of_z at c.from-2.ensures in
    let nz : c.from-3.result ≡ c.args.nz = simp to_z-of_z at c.from-3.ensures in
    let x : FitsSigned w128 c.along.result = omega (arith, ints, c.along.ensures.bounds) in
    let y : FitsSigned w128 c.along-2.result = omega (arith, ints, c.along-2.ensures.bounds) in
    let z : FitsSigned w128 c.along-3.result = omega (arith, ints, c.along-3.ensures.bounds) in
    let xy : FitsSigned w128 (c.along.result +ℤ c.along-2.result) = omega (arith, ints, c.along.ensures.bounds, c.along-2.ensures.bounds) in
    let xyz : FitsSigned w128 (c.along.result +ℤ c.along-2.result +ℤ c.along-3.result) = omega (arith, ints, c.along.ensures.bounds, c.along-2.ensures.bounds, c.along-3.ensures.bounds) in
    let all : FitsSigned w128 (c.along.result +ℤ c.along-2.result +ℤ c.along-3.result +ℤ c.args.far) = omega (arith, ints, c.along.ensures.bounds, c.along-2.ensures.bounds, c.along-3.ensures.bounds, c.requires.far) in
    let is_x : c.along.result ≡ c.args.nx *ℤ c.args.eye.now.x = simp to_z-of_z at c.along.ensures.value in
    let is_y : c.along-2.result ≡ c.args.ny *ℤ c.args.eye.now.y = simp to_z-of_z at c.along-2.ensures.value in
    let is_z : c.along-3.result ≡ c.args.nz *ℤ c.args.eye.now.z = simp to_z-of_z at c.along-3.ensures.value in
    simp to_z-of_z (rw (nx, ny, nz) (simp to_z-of_z (rw (is_x, is_y, is_z) refl)))
