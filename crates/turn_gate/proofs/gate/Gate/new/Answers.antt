use Rattle.std.proofs.Common.{◌≡◌, subst}
use Rattle.turn_gate.proofs.Opening.{opening_kept}
use Rattle.turn_gate.proofs.gate.Gate.new.Goals as goal

pub vacant-requires : goal.vacant-requires
vacant-requires g c =
    let value = c.args.value in
    opening_kept (g.S.Replayed.replays (g.S.Replayed.base value)) g.S.Replayed.maker (λ v log. (g.S.Replayed.entries v ≡ log) × (g.S.Replayed.base v ≡ g.S.Replayed.base value))
    (subst (g.S.Replayed.replays (g.S.Replayed.base value)) c.requires.entries c.tell.ensures)
