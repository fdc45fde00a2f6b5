use Rattle.std.proofs.Common.{◌≡◌, ◌+◌, ◌-◌, ◌≤◌, List, ℕ, length}
use Rattle.std.specs.Arc.{arc_value}
use Rattle.view_ends.specs.Ends.{Leaves}
use Rattle.sessions.specs.Talk.{IsReady, talk_of}
use Rattle.sessions.specs.Hearing.{HasHeard}
use Rattle.sessions.specs.declared.serving.TheConstants.{INPUT_LIMIT}
use Rattle.sessions.proofs.serving.listen.Given as goal

abbrev pub invariant-loop-pass : goal.invariant-loop-pass
invariant-loop-pass g l = record {
  heard : (t : List ℕ) × (length t ≡ l.taken) × Leaves (g.I.Source.left l.fn.source) t (g.I.Source.left l.source)
      × HasHeard (arc_value l.fn.world.scene.survey) t (talk_of l.pass l.marks) l.pending (record { pass = l.fn.pass; got = g.O.Sink.got l.fn.sink }) (g.O.Sink.got l.sink);
  ready : IsReady l.fn.world.shared.name l.pass;
  few : l.taken ≤ INPUT_LIMIT;
  count : g.I.Source.taken l.source ≡ g.I.Source.taken l.fn.source + l.taken;
  reads : g.I.Source.faults l.source ≡ g.I.Source.faults l.fn.source;
  writes : g.O.Sink.faults l.sink ≡ g.O.Sink.faults l.fn.sink;
}

abbrev pub decreases-loop-pass : goal.decreases-loop-pass
decreases-loop-pass g l = INPUT_LIMIT + 1 - l.taken
