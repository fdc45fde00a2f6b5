use Rattle.std.proofs.Common.{◌≡◌, ◌<◌, ℕ, ◌+◌, ℤ, pos, ◌*ℤ◌, Bool, false, FitsSigned, List, length, get_or, below_more, sym, ◌∙◌, ap, arith, rules}
use Rattle.std.proofs.lemmas.Int.{to_z-of_z}
use mir.Syntax.{w128}
use Rattle.view_meaning.specs.Camera.{Projection}
use Rattle.int_camera.specs.Limits.{is_out, is_outside, number, projection_of, ranges}
use Rattle.int_camera.proofs.Limits.{first_outside-found, first_outside-last, first_outside-none, is_outside-at, is_outside-pixels, pixels_fit}
use Rattle.int_camera.proofs.numbers.first_limit.Goals as goal

-- the test of a number in its range, as the answer on its place
tested : (kind : Projection) (n : List ℤ) (i : ℕ) (allowed : List (ℤ × ℤ)) (b : Bool) → length n ≡ 18 → i < 18 → allowed ≡ ranges kind (number n 17) → b ≡ is_out (get_or allowed i (pos 0, pos 0)) (get_or n i (pos 0)) → is_outside kind n (1 + i) ≡ b
tested kind n i allowed b len lt is e =
    is_outside-at kind n i len lt ∙ ap (λ (rs : List (ℤ × ℤ)). is_out (get_or rs i (pos 0, pos 0)) (get_or n i (pos 0))) (sym is) ∙ sym e

-- the same of the product
tested_pixels : (kind : Projection) (n : List ℤ) (allowed : List (ℤ × ℤ)) (b : Bool) → length n ≡ 18 → allowed ≡ ranges kind (number n 17) → b ≡ is_out (get_or allowed 18 (pos 0, pos 0)) (get_or n 0 (pos 0) *ℤ get_or n 1 (pos 0)) → is_outside kind n 19 ≡ b
tested_pixels kind n allowed b len is e =
    is_outside-pixels kind n len ∙ ap (λ (rs : List (ℤ × ℤ)). is_out (get_or rs 18 (pos 0, pos 0)) (get_or n 0 (pos 0) *ℤ get_or n 1 (pos 0))) (sym is) ∙ sym e

pub returns-then-is_out : goal.returns-then-is_out
returns-then-is_out c =
    let n : List ℤ = c.args.numbers.now.n in
    let kind : Projection = projection_of c.args.numbers.now.kind in
    let len : length n ≡ 18 = search rules in
    let fits : FitsSigned w128 (get_or n c.loop-i.i (pos 0)) = search rules in
    let near_fits : FitsSigned w128 (get_or n 16 (pos 0)) = search rules in
    let allowed : c.ranges_of-allowed.result ≡ ranges kind (number n 17) = simp to_z-of_z at c.ranges_of-allowed.ensures in
    let here : is_outside kind n (1 + c.loop-i.i) ≡ c.is_out.result = tested kind n c.loop-i.i c.ranges_of-allowed.result c.is_out.result len c.loop-i-test.true allowed (simp to_z-of_z at c.is_out.ensures) in
    simp to_z-of_z (sym (first_outside-found kind n c.loop-i.i len c.loop-i-test.true c.loop-i.invariant (here ∙ c.if-is_out.true)))

pub loop-i-preserved : goal.loop-i-preserved
loop-i-preserved c =
    let n : List ℤ = c.args.numbers.now.n in
    let kind : Projection = projection_of c.args.numbers.now.kind in
    let len : length n ≡ 18 = search rules in
    let fits : FitsSigned w128 (get_or n c.loop-i.i (pos 0)) = search rules in
    let near_fits : FitsSigned w128 (get_or n 16 (pos 0)) = search rules in
    let allowed : c.ranges_of-allowed.result ≡ ranges kind (number n 17) = simp to_z-of_z at c.ranges_of-allowed.ensures in
    let here : is_outside kind n (1 + c.loop-i.i) ≡ c.is_out.result = tested kind n c.loop-i.i c.ranges_of-allowed.result c.is_out.result len c.loop-i-test.true allowed (simp to_z-of_z at c.is_out.ensures) in
    below_more _ c.loop-i.i c.loop-i.invariant (here ∙ c.if-is_out.false)

-- what is known of the eighteen once the loop has ended
pub overflow_mul-pixels : goal.overflow_mul-pixels
overflow_mul-pixels c =
    let n : List ℤ = c.args.numbers.now.n in
    let kind : Projection = projection_of c.args.numbers.now.kind in
    let len : length n ≡ 18 = search rules in
    let width_fits : FitsSigned w128 (get_or n 0 (pos 0)) = search rules in
    let height_fits : FitsSigned w128 (get_or n 1 (pos 0)) = search rules in
    let below : (k : ℕ) → k < 18 → is_outside kind n (1 + k) ≡ false = λ k lt. c.loop-i.invariant k (omega arith) in
    simp to_z-of_z (pixels_fit kind n len below)

pub returns-then-is_out-2 : goal.returns-then-is_out-2
returns-then-is_out-2 c =
    let n : List ℤ = c.args.numbers.now.n in
    let kind : Projection = projection_of c.args.numbers.now.kind in
    let len : length n ≡ 18 = search rules in
    let width_fits : FitsSigned w128 (get_or n 0 (pos 0)) = search rules in
    let height_fits : FitsSigned w128 (get_or n 1 (pos 0)) = search rules in
    let near_fits : FitsSigned w128 (get_or n 16 (pos 0)) = search rules in
    let below : (k : ℕ) → k < 18 → is_outside kind n (1 + k) ≡ false = λ k lt. c.loop-i.invariant k (omega arith) in
    let fits : FitsSigned w128 (get_or n 0 (pos 0) *ℤ get_or n 1 (pos 0)) = pixels_fit kind n len below in
    let allowed : c.ranges_of-allowed.result ≡ ranges kind (number n 17) = simp to_z-of_z at c.ranges_of-allowed.ensures in
    let last : is_outside kind n 19 ≡ c.is_out-2.result = tested_pixels kind n c.ranges_of-allowed.result c.is_out-2.result len allowed (simp to_z-of_z at c.is_out-2.ensures) in
    simp to_z-of_z (sym (first_outside-last kind n len below (last ∙ c.if-is_out-2.true)))

pub returns : goal.returns
returns c =
    let n : List ℤ = c.args.numbers.now.n in
    let kind : Projection = projection_of c.args.numbers.now.kind in
    let len : length n ≡ 18 = search rules in
    let width_fits : FitsSigned w128 (get_or n 0 (pos 0)) = search rules in
    let height_fits : FitsSigned w128 (get_or n 1 (pos 0)) = search rules in
    let near_fits : FitsSigned w128 (get_or n 16 (pos 0)) = search rules in
    let below : (k : ℕ) → k < 18 → is_outside kind n (1 + k) ≡ false = λ k lt. c.loop-i.invariant k (omega arith) in
    let fits : FitsSigned w128 (get_or n 0 (pos 0) *ℤ get_or n 1 (pos 0)) = pixels_fit kind n len below in
    let allowed : c.ranges_of-allowed.result ≡ ranges kind (number n 17) = simp to_z-of_z at c.ranges_of-allowed.ensures in
    let last : is_outside kind n 19 ≡ c.is_out-2.result = tested_pixels kind n c.ranges_of-allowed.result c.is_out-2.result len allowed (simp to_z-of_z at c.is_out-2.ensures) in
    sym (first_outside-none kind n below (last ∙ c.if-is_out-2.false))
