use Rattle.std.proofs.Common.{◌≡◌, ◌+◌, ◌-◌, ◌%◌, ◌^◌, rules}
use mathlib.Core.Option.{none}
use Rattle.atomic_table.specs.Table.{step}
use Rattle.turn_gate.proofs.Looking.{stay_allows}
use Rattle.turn_gate.proofs.turns.park.Goals as goal

pub fetch_add-requires : goal.fetch_add-requires
fetch_add-requires g c =
    let first = c.gate.inside.table.shared.key in
    let slots = c.gate.inside.table.shared.table_id.slots in (
      search rules,
      search rules,
      stay_allows (g.S.Replayed.replays (g.S.Replayed.base first)) g.S.Replayed.maker (λ value log. (g.S.Replayed.entries value ≡ log) × (g.S.Replayed.base value ≡ g.S.Replayed.base first))
          slots c.into_seat-seat.result.id c.into_seat-seat.result.me (λ n. (n + 1) % 2 ^ 64) (step slots 2 1 0 none),
    )

pub fetch_sub-requires : goal.fetch_sub-requires
fetch_sub-requires g c =
    let first = c.gate.inside.table.shared.key in
    let slots = c.gate.inside.table.shared.table_id.slots in (
      search rules,
      search rules,
      stay_allows (g.S.Replayed.replays (g.S.Replayed.base first)) g.S.Replayed.maker (λ value log. (g.S.Replayed.entries value ≡ log) × (g.S.Replayed.base value ≡ g.S.Replayed.base first))
          slots c.fetch_add.new.seat.id c.fetch_add.new.seat.me (λ n. (n + (2 ^ 64 - 1)) % 2 ^ 64) (step slots 2 1 0 none),
    )
