use Rattle.std.proofs.Common.{◌≡◌, ◌<◌, ℕ, ◌+◌, false}
use Rattle.int_camera.specs.Limits.{is_outside, projection_of}
use Rattle.int_camera.proofs.numbers.first_limit.Given as goal

abbrev pub invariant-loop-i : goal.invariant-loop-i
invariant-loop-i l = (k : ℕ) → k < l.i → is_outside (projection_of l.numbers.kind) l.numbers.n (1 + k) ≡ false
