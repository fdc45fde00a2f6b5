use Rattle.std.proofs.Common.{◌+ℤ◌, FitsSigned, w32, w64, arith, rules}
use Rattle.std.proofs.lemmas.Int.{ints, to_z-of_z}
use Rattle.int_camera.specs.declared.half_space.HalfSpace.{HalfSpace}
use Rattle.cull_boxes.proofs.Corners.{excludes-told}
use Rattle.cull_boxes.proofs.narrow.NarrowHalfSpaceCull.excludes.Goals as goal

pub returns : goal.returns
returns c =
    let nx : FitsSigned w64 c.self.inside.nx = search rules in
    let ny : FitsSigned w64 c.self.inside.ny = search rules in
    let nz : FitsSigned w64 c.self.inside.nz = search rules in
    let begins : FitsSigned w64 c.self.inside.c = search rules in
    let min_x : FitsSigned w32 c.args.area.now.min.x = search rules in
    let min_y : FitsSigned w32 c.args.area.now.min.y = search rules in
    let min_z : FitsSigned w32 c.args.area.now.min.z = search rules in
    let max_x : FitsSigned w32 c.args.area.now.max.x = search rules in
    let max_y : FitsSigned w32 c.args.area.now.max.y = search rules in
    let max_z : FitsSigned w32 c.args.area.now.max.z = search rules in
    let x : FitsSigned w64 c.reach.result = omega (arith, ints, c.reach.ensures.bounds) in
    let y : FitsSigned w64 c.reach-2.result = omega (arith, ints, c.reach-2.ensures.bounds) in
    let z : FitsSigned w64 c.reach-3.result = omega (arith, ints, c.reach-3.ensures.bounds) in
    let xy : FitsSigned w64 (c.reach.result +ℤ c.reach-2.result) = omega (arith, ints, c.reach.ensures.bounds, c.reach-2.ensures.bounds) in
    let xyz : FitsSigned w64 (c.reach.result +ℤ c.reach-2.result +ℤ c.reach-3.result) = omega (arith, ints, c.reach.ensures.bounds, c.reach-2.ensures.bounds, c.reach-3.ensures.bounds) in
    let h : HalfSpace = record { nx = c.self.inside.nx; ny = c.self.inside.ny; nz = c.self.inside.nz; c = c.self.inside.c } in
    excludes-told h c.args.self.now c.args.area.now c.reach.result c.reach-2.result c.reach-3.result _ _ c.self.view_is
    (simp to_z-of_z at c.reach.ensures.value) (simp to_z-of_z at c.reach-2.ensures.value) (simp to_z-of_z at c.reach-3.ensures.value)
    (simp to_z-of_z) (to_z-of_z w64 c.self.inside.c begins)
