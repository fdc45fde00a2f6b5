use Rattle.std.proofs.Common.{◌+ℤ◌, FitsSigned, w32, refl, arith, rules}
use Rattle.std.proofs.lemmas.Int.{ints, to_z-of_z}
use mir.Syntax.{w128}
use Rattle.cull_boxes.proofs.Corners.{excludes-told}
use Rattle.cull_boxes.proofs.wide.HalfSpaceCull.excludes.Goals as goal

pub returns : goal.returns
returns c =
    let nx : FitsSigned w128 c.args.self.now.nx = search rules in
    let ny : FitsSigned w128 c.args.self.now.ny = search rules in
    let nz : FitsSigned w128 c.args.self.now.nz = search rules in
    let begins : FitsSigned w128 c.args.self.now.c = search rules in
    let min_x : FitsSigned w32 c.args.area.now.min.x = search rules in
    let min_y : FitsSigned w32 c.args.area.now.min.y = search rules in
    let min_z : FitsSigned w32 c.args.area.now.min.z = search rules in
    let max_x : FitsSigned w32 c.args.area.now.max.x = search rules in
    let max_y : FitsSigned w32 c.args.area.now.max.y = search rules in
    let max_z : FitsSigned w32 c.args.area.now.max.z = search rules in
    let x : FitsSigned w128 c.reach.result = omega (arith, ints, c.reach.ensures.bounds) in
    let y : FitsSigned w128 c.reach-2.result = omega (arith, ints, c.reach-2.ensures.bounds) in
    let z : FitsSigned w128 c.reach-3.result = omega (arith, ints, c.reach-3.ensures.bounds) in
    let xy : FitsSigned w128 (c.reach.result +ℤ c.reach-2.result) = omega (arith, ints, c.reach.ensures.bounds, c.reach-2.ensures.bounds) in
    let xyz : FitsSigned w128 (c.reach.result +ℤ c.reach-2.result +ℤ c.reach-3.result) = omega (arith, ints, c.reach.ensures.bounds, c.reach-2.ensures.bounds, c.reach-3.ensures.bounds) in
    excludes-told c.args.self.now c.args.self.now c.args.area.now c.reach.result c.reach-2.result c.reach-3.result _ _ refl
    (simp to_z-of_z at c.reach.ensures.value) (simp to_z-of_z at c.reach-2.ensures.value) (simp to_z-of_z at c.reach-3.ensures.value)
    (simp to_z-of_z) (to_z-of_z w128 c.args.self.now.c begins)
