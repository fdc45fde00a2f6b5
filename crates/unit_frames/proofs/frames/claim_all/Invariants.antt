use Rattle.std.proofs.Common.{◌≡◌, ◌≤◌, ◌-◌}
use Rattle.min_frame.proofs.Claiming.{above_all}
use Rattle.unit_frames.proofs.frames.claim_all.Given as goal

abbrev pub invariant-loop-number : goal.invariant-loop-number
invariant-loop-number l =
    record { frame : l.seat.frame ≡ l.fn.seat.frame; root : l.seat.root ≡ l.fn.seat.root; out : l.seat.out ≡ l.fn.seat.out; ends : 1 ≤ l.seat.ends }

abbrev pub decreases-loop-number : goal.decreases-loop-number
decreases-loop-number l = l.frame.blocks - above_all l.seat.claims
