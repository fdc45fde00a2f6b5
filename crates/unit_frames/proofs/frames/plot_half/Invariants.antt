use Rattle.std.proofs.Common.{◌≡◌}
use Rattle.unit_frames.proofs.frames.plot_half.Given as goal

abbrev pub invariant-loop-i : goal.invariant-loop-i
invariant-loop-i l =
    record { frame : l.seat.frame ≡ l.fn.seat.frame; root : l.seat.root ≡ l.fn.seat.root; out : l.seat.out ≡ l.fn.seat.out; ends : l.seat.ends ≡ l.fn.seat.ends }
