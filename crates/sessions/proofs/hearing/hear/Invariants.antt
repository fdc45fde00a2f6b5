use Rattle.std.proofs.Common.{◌≡◌, ◌++◌, List, ℕ, length}
use Rattle.std.specs.Arc.{arc_value}
use Rattle.sessions.specs.Talk.{Start, IsReady, talk_of}
use Rattle.sessions.specs.Hearing.{HasHeard}
use Rattle.sessions.proofs.hearing.hear.Given as goal

abbrev pub invariant-loop-length : goal.invariant-loop-length
invariant-loop-length g l =
    (front : List ℕ) × (l.fn.piece ≡ front ++ l.rest)
    × ((t : List ℕ) → (start : Start) → HasHeard (arc_value l.fn.world.scene.survey) t (talk_of l.fn.pass l.fn.marks) l.fn.pending start (g.O.Sink.got l.fn.sink) → HasHeard (arc_value l.fn.world.scene.survey) (t ++ front) (talk_of l.pass l.marks) l.pending start (g.O.Sink.got l.sink))
    × (g.O.Sink.faults l.sink ≡ g.O.Sink.faults l.fn.sink)
    × IsReady l.fn.world.shared.name l.pass

abbrev pub decreases-loop-length : goal.decreases-loop-length
decreases-loop-length g l = length l.rest
