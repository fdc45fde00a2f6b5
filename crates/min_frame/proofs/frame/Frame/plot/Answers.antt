use Rattle.std.proofs.Common.{◌≡◌, rules, arith, ap}
use Rattle.min_frame.proofs.Plotting.{plot_allows}
use Rattle.min_frame.proofs.frame.Frame.plot.Goals as goal

pub fetch_min-requires : goal.fetch_min-requires
fetch_min-requires c =
    let pixels : c.self.inside.pixels ≡ c.args.self.now.pixels = ap (λ m. m.pixels) c.self.view_is in
    (search rules, omega arith, plot_allows c.self.inside.table.shared.key c.self.inside.table.shared.table_id.slots c.seat.inside.inner.id c.args.pixel c.args.value c.seat.inside.inner.me (omega arith) (search (rules, c.ranges.value)) c.seat.invariant.0)
