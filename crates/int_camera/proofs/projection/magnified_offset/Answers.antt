use Rattle.std.proofs.Common.{◌≡◌, ◌^◌, ◌≤◌, ◌<◌, ◌/◌, pos, ◌*ℤ◌, unsigned_abs, to_z, FitsSigned, w64, arith}
use Rattle.std.proofs.lemmas.Int.{to_z-of_z, to_z_pos}
use Rattle.int_camera.specs.Kept.{IsReached}
use Rattle.int_camera.proofs.Places.{from_edge-beside}
use Rattle.int_camera.proofs.Products.{reached, not_reached, fits_64}
use Rattle.int_camera.proofs.projection.magnified_offset.Goals as goal

pub returns-then-unsigned_abs-reach-clause-beside : goal.returns-then-unsigned_abs-reach-clause-beside
returns-then-unsigned_abs-reach-clause-beside c =
    let fits = c.ranges.distance in
    let size : c.unsigned_abs.result ≡ unsigned_abs c.args.distance = simp to_z-of_z at c.unsigned_abs.ensures.value in
    let far : 2 ^ 60 / c.args.scale < unsigned_abs c.args.distance = omega (arith, size, c.requires.reach, c.if-unsigned_abs-reach.true) in
    from_edge-beside (c.args.distance *ℤ pos c.args.scale) c.args.step c.args.size c.requires.step.0 c.requires.step.1 c.requires.size.1 (not_reached c.args.distance c.args.scale c.requires.scale.0 far)

pub offset-requires-clause-distance : goal.offset-requires-clause-distance
offset-requires-clause-distance c =
    let fits = c.ranges.distance in
    let size : c.unsigned_abs.result ≡ unsigned_abs c.args.distance = simp to_z-of_z at c.unsigned_abs.ensures.value in
    let near : unsigned_abs c.args.distance ≤ 2 ^ 60 / c.args.scale = omega (arith, size, c.requires.reach, c.if-unsigned_abs-reach.false) in
    let within : IsReached (c.args.distance *ℤ pos c.args.scale) = reached c.args.distance c.args.scale near in
    let scale : to_z w64 c.args.scale ≡ pos c.args.scale = to_z_pos w64 c.args.scale (omega (arith, c.requires.scale)) in
    let product_fits : FitsSigned w64 (c.args.distance *ℤ pos c.args.scale) = fits_64 (c.args.distance *ℤ pos c.args.scale) within in
    simp (to_z-of_z, scale) within

pub returns-clause-inside : goal.returns-clause-inside
returns-clause-inside c =
    let fits = c.ranges.distance in
    let size : c.unsigned_abs.result ≡ unsigned_abs c.args.distance = simp to_z-of_z at c.unsigned_abs.ensures.value in
    let near : unsigned_abs c.args.distance ≤ 2 ^ 60 / c.args.scale = omega (arith, size, c.requires.reach, c.if-unsigned_abs-reach.false) in
    let within : IsReached (c.args.distance *ℤ pos c.args.scale) = reached c.args.distance c.args.scale near in
    let scale : to_z w64 c.args.scale ≡ pos c.args.scale = to_z_pos w64 c.args.scale (omega (arith, c.requires.scale)) in
    let product_fits : FitsSigned w64 (c.args.distance *ℤ pos c.args.scale) = fits_64 (c.args.distance *ℤ pos c.args.scale) within in
    simp (to_z-of_z, scale) at c.offset.ensures.inside

pub returns-clause-beside : goal.returns-clause-beside
returns-clause-beside c =
    let fits = c.ranges.distance in
    let size : c.unsigned_abs.result ≡ unsigned_abs c.args.distance = simp to_z-of_z at c.unsigned_abs.ensures.value in
    let near : unsigned_abs c.args.distance ≤ 2 ^ 60 / c.args.scale = omega (arith, size, c.requires.reach, c.if-unsigned_abs-reach.false) in
    let within : IsReached (c.args.distance *ℤ pos c.args.scale) = reached c.args.distance c.args.scale near in
    let scale : to_z w64 c.args.scale ≡ pos c.args.scale = to_z_pos w64 c.args.scale (omega (arith, c.requires.scale)) in
    let product_fits : FitsSigned w64 (c.args.distance *ℤ pos c.args.scale) = fits_64 (c.args.distance *ℤ pos c.args.scale) within in
    simp (to_z-of_z, scale) at c.offset.ensures.beside
