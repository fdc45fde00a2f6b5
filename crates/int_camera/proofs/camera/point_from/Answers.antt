use Rattle.std.proofs.Common.{◌≡◌, ◌+◌, ◌-◌, ℤ, pos, List, get_or, FitsSigned, w32, arith}
use Rattle.std.proofs.lemmas.Int.{ints, to_z-of_z}
use mir.Syntax.{w128}
use Rattle.int_camera.specs.Kept.{IsCoordinate}
use Rattle.int_camera.proofs.camera.point_from.Goals as goal

pub returns : goal.returns
returns c =
    let n : List ℤ = c.args.numbers.now.n in
    let next : c.args.place + 1 - 1 ≡ c.args.place = omega arith in
    let after : c.args.place + 2 - 1 ≡ c.args.place + 1 = omega arith in
    let y : IsCoordinate (get_or n c.args.place (pos 0)) = rw next at c.requires.y in
    let z : IsCoordinate (get_or n (c.args.place + 1) (pos 0)) = rw after at c.requires.z in
    let x_32 : FitsSigned w32 (get_or n (c.args.place - 1) (pos 0)) = omega (arith, ints, c.requires.x) in
    let y_32 : FitsSigned w32 (get_or n c.args.place (pos 0)) = omega (arith, ints, y) in
    let z_32 : FitsSigned w32 (get_or n (c.args.place + 1) (pos 0)) = omega (arith, ints, z) in
    let x_128 : FitsSigned w128 (get_or n (c.args.place - 1) (pos 0)) = omega (arith, ints, c.requires.x) in
    let y_128 : FitsSigned w128 (get_or n c.args.place (pos 0)) = omega (arith, ints, y) in
    let z_128 : FitsSigned w128 (get_or n (c.args.place + 1) (pos 0)) = omega (arith, ints, z) in
    rw (next, after) (simp to_z-of_z)
