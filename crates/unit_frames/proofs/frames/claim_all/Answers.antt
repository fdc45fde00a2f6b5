use Rattle.std.proofs.Common.{◌≡◌, ◌+◌, ◌≤◌, ap, ◌∙◌, arith}
use Rattle.min_frame.proofs.Claiming.{above_all, above_all-le, above_all-push}
use Rattle.unit_frames.proofs.frames.claim_all.Goals as goal

pub loop-number-smaller : goal.loop-number-smaller
loop-number-smaller c =
    let before : above_all c.loop-number.seat.claims ≤ c.in-Some.number = above_all-le c.loop-number.seat.claims c.in-Some.number c.in-Some.ensures.above in
    let after : above_all c.claim.new.seat.claims ≡ c.in-Some.number + 1 =
    ap (λ s. above_all s.claims) c.in-Some.ensures.claimed ∙ above_all-push c.loop-number.seat.claims c.in-Some.number c.in-Some.ensures.above in
    omega (arith, c.in-Some.ensures.below)
