use Rattle.std.proofs.Common.{◌≡◌, ◌^◌, ◌-◌, refl, ℤ, pos, List, length, get_or, FitsSigned, arith, rules}
use Rattle.std.proofs.lemmas.Int.{ints, to_z-of_z}
use mir.Syntax.{w128}
use Rattle.int_camera.specs.Limits.{number, projection_of}
use Rattle.int_camera.proofs.InRange.{in_range, cast_32, cast_64, abs_within, scale_kept, near_kept, abs_in_order, abs-mul_within, vector_of, coordinate_of}
use Rattle.int_camera.proofs.camera.Camera.of_numbers.Goals as goal

pub overflow_cast-result : goal.overflow_cast-result
overflow_cast-result c =
    let n : List ℤ = c.args.numbers.now.n in
    let len : length n ≡ 18 = search rules in
    let known = in_range (projection_of c.args.numbers.now.kind) n len c.requires in
    cast_32 (number n 1) (omega (arith, ints, known.width)) (omega (arith, ints, known.width))

pub overflow_cast-result-2 : goal.overflow_cast-result-2
overflow_cast-result-2 c =
    let n : List ℤ = c.args.numbers.now.n in
    let len : length n ≡ 18 = search rules in
    let known = in_range (projection_of c.args.numbers.now.kind) n len c.requires in
    cast_32 (number n 2) (omega (arith, ints, known.height)) (omega (arith, ints, known.height))

pub point_from-requires-clause-x : goal.point_from-requires-clause-x
point_from-requires-clause-x c =
    let n : List ℤ = c.args.numbers.now.n in
    let len : length n ≡ 18 = search rules in
    let known = in_range (projection_of c.args.numbers.now.kind) n len c.requires in
    known.eye_x

pub point_from-requires-clause-y : goal.point_from-requires-clause-y
point_from-requires-clause-y c =
    let n : List ℤ = c.args.numbers.now.n in
    let len : length n ≡ 18 = search rules in
    let known = in_range (projection_of c.args.numbers.now.kind) n len c.requires in
    known.eye_y

pub point_from-requires-clause-z : goal.point_from-requires-clause-z
point_from-requires-clause-z c =
    let n : List ℤ = c.args.numbers.now.n in
    let len : length n ≡ 18 = search rules in
    let known = in_range (projection_of c.args.numbers.now.kind) n len c.requires in
    known.eye_z

pub point_from-requires-2-clause-x : goal.point_from-requires-2-clause-x
point_from-requires-2-clause-x c =
    let n : List ℤ = c.args.numbers.now.n in
    let len : length n ≡ 18 = search rules in
    let known = in_range (projection_of c.args.numbers.now.kind) n len c.requires in
    coordinate_of _ known.right_x

pub point_from-requires-2-clause-y : goal.point_from-requires-2-clause-y
point_from-requires-2-clause-y c =
    let n : List ℤ = c.args.numbers.now.n in
    let len : length n ≡ 18 = search rules in
    let known = in_range (projection_of c.args.numbers.now.kind) n len c.requires in
    coordinate_of _ known.right_y

pub point_from-requires-2-clause-z : goal.point_from-requires-2-clause-z
point_from-requires-2-clause-z c =
    let n : List ℤ = c.args.numbers.now.n in
    let len : length n ≡ 18 = search rules in
    let known = in_range (projection_of c.args.numbers.now.kind) n len c.requires in
    coordinate_of _ known.right_z

pub point_from-requires-3-clause-x : goal.point_from-requires-3-clause-x
point_from-requires-3-clause-x c =
    let n : List ℤ = c.args.numbers.now.n in
    let len : length n ≡ 18 = search rules in
    let known = in_range (projection_of c.args.numbers.now.kind) n len c.requires in
    coordinate_of _ known.down_x

pub point_from-requires-3-clause-y : goal.point_from-requires-3-clause-y
point_from-requires-3-clause-y c =
    let n : List ℤ = c.args.numbers.now.n in
    let len : length n ≡ 18 = search rules in
    let known = in_range (projection_of c.args.numbers.now.kind) n len c.requires in
    coordinate_of _ known.down_y

pub point_from-requires-3-clause-z : goal.point_from-requires-3-clause-z
point_from-requires-3-clause-z c =
    let n : List ℤ = c.args.numbers.now.n in
    let len : length n ≡ 18 = search rules in
    let known = in_range (projection_of c.args.numbers.now.kind) n len c.requires in
    coordinate_of _ known.down_z

pub point_from-requires-4-clause-x : goal.point_from-requires-4-clause-x
point_from-requires-4-clause-x c =
    let n : List ℤ = c.args.numbers.now.n in
    let len : length n ≡ 18 = search rules in
    let known = in_range (projection_of c.args.numbers.now.kind) n len c.requires in
    coordinate_of _ known.forward_x

pub point_from-requires-4-clause-y : goal.point_from-requires-4-clause-y
point_from-requires-4-clause-y c =
    let n : List ℤ = c.args.numbers.now.n in
    let len : length n ≡ 18 = search rules in
    let known = in_range (projection_of c.args.numbers.now.kind) n len c.requires in
    coordinate_of _ known.forward_y

pub point_from-requires-4-clause-z : goal.point_from-requires-4-clause-z
point_from-requires-4-clause-z c =
    let n : List ℤ = c.args.numbers.now.n in
    let len : length n ≡ 18 = search rules in
    let known = in_range (projection_of c.args.numbers.now.kind) n len c.requires in
    coordinate_of _ known.forward_z

pub overflow_cast-scale : goal.overflow_cast-scale
overflow_cast-scale c =
    let n : List ℤ = c.args.numbers.now.n in
    let len : length n ≡ 18 = search rules in
    let known = in_range (projection_of c.args.numbers.now.kind) n len c.requires in
    cast_64 (number n 15) (omega (arith, ints, known.scale)) (omega (arith, ints, known.scale))

pub overflow_cast-unit : goal.overflow_cast-unit
overflow_cast-unit c =
    let n : List ℤ = c.args.numbers.now.n in
    let len : length n ≡ 18 = search rules in
    let known = in_range (projection_of c.args.numbers.now.kind) n len c.requires in
    cast_64 (number n 16) (omega (arith, ints, known.unit)) (omega (arith, ints, known.unit))

pub overflow_cast-result-3 : goal.overflow_cast-result-3
overflow_cast-result-3 c =
    let n : List ℤ = c.args.numbers.now.n in
    let len : length n ≡ 18 = search rules in
    let known = in_range (projection_of c.args.numbers.now.kind) n len c.requires in
    cast_32 (number n 17) (omega (arith, ints, known.near)) (omega (arith, ints, known.near))

pub overflow_cast-result-4 : goal.overflow_cast-result-4
overflow_cast-result-4 c =
    let n : List ℤ = c.args.numbers.now.n in
    let len : length n ≡ 18 = search rules in
    let known = in_range (projection_of c.args.numbers.now.kind) n len c.requires in
    cast_32 (number n 18) (omega (arith, ints, known.far, known.near)) (omega (arith, ints, known.far, known.near))

pub nonzero_div-result : goal.nonzero_div-result
nonzero_div-result c =
    let n : List ℤ = c.args.numbers.now.n in
    let len : length n ≡ 18 = search rules in
    let known = in_range (projection_of c.args.numbers.now.kind) n len c.requires in
    let least = abs_within (number n 15) 1 (2 ^ 40) (omega arith) known.scale in
    omega (arith, least)

pub reciprocal-requires : goal.reciprocal-requires
reciprocal-requires c =
    let n : List ℤ = c.args.numbers.now.n in
    let len : length n ≡ 18 = search rules in
    let known = in_range (projection_of c.args.numbers.now.kind) n len c.requires in
    let least = abs_within (number n 15) 1 (2 ^ 40) (omega arith) known.scale in
    record { by = omega (arith, least) }

pub reciprocal-requires-2 : goal.reciprocal-requires-2
reciprocal-requires-2 c =
    let n : List ℤ = c.args.numbers.now.n in
    let len : length n ≡ 18 = search rules in
    let known = in_range (projection_of c.args.numbers.now.kind) n len c.requires in
    let least = abs_within (number n 16) 1 (2 ^ 40) (omega arith) known.unit in
    record { by = omega (arith, least) }

pub invariant_of-result : goal.invariant_of-result
invariant_of-result c =
    let n : List ℤ = c.args.numbers.now.n in
    let len : length n ≡ 18 = search rules in
    let known = in_range (projection_of c.args.numbers.now.kind) n len c.requires in (
      (refl, (c.reciprocal.ensures.value, c.reciprocal-2.ensures.value)),
      record {
        width = abs_within (number n 1) 1 4096 (omega arith) known.width;
        height = abs_within (number n 2) 1 4096 (omega arith) known.height;
        pixels = abs-mul_within (number n 1) (number n 2) 9437184 known.width known.height known.pixels;
        right = vector_of _ n 6 c.point_from-2.ensures known.right_x known.right_y known.right_z;
        down = vector_of _ n 9 c.point_from-3.ensures known.down_x known.down_y known.down_z;
        forward = vector_of _ n 12 c.point_from-4.ensures known.forward_x known.forward_y known.forward_z;
        scale = scale_kept (projection_of c.args.numbers.now.kind) (number n 15) known.scale known.of_kind;
        unit = abs_within (number n 16) 1 (2 ^ 40) (omega arith) known.unit;
        near = near_kept (projection_of c.args.numbers.now.kind) (number n 17) known.near known.ahead;
        depths = abs_in_order (number n 17) (number n 18) known.near.0 known.far;
        deepest = (abs_within (number n 18) 0 (2 ^ 32 - 2) (omega arith) (omega (arith, ints, known.near, known.far), known.far.1)).1;
      },
    )

pub returns : goal.returns
returns c =
    let n : List ℤ = c.args.numbers.now.n in
    let len : length n ≡ 18 = search rules in
    let known = in_range (projection_of c.args.numbers.now.kind) n len c.requires in
    let f1 : FitsSigned w128 (get_or n 0 (pos 0)) = search rules in
    let f2 : FitsSigned w128 (get_or n 1 (pos 0)) = search rules in
    let f15 : FitsSigned w128 (get_or n 14 (pos 0)) = search rules in
    let f16 : FitsSigned w128 (get_or n 15 (pos 0)) = search rules in
    let f17 : FitsSigned w128 (get_or n 16 (pos 0)) = search rules in
    let f18 : FitsSigned w128 (get_or n 17 (pos 0)) = search rules in
    rw (c.point_from.ensures, c.point_from-2.ensures, c.point_from-3.ensures, c.point_from-4.ensures) (simp to_z-of_z)
