use Rattle.std.proofs.Common.{rules, ◌≡◌, length, slice_index_or, subst}
use Rattle.std.specs.Arc.{arc_value}
use Rattle.view_commands.specs.Steps.{IsServed, Seated}
use Rattle.view_commands.proofs.Lists.{zip-from}
use Rattle.view_commands.proofs.side_by_side.serve_all.Goals as goal

pub returns : goal.returns
returns g c =
    let b = arc_value c.args.world.now.scene.survey in
    let size : length c.for_each_mut.new.s ≡ length c.args.seats.now = search rules in
    zip-from (IsServed b) c.args.seats.now c.for_each_mut.new.s size (λ k d below.
    let one = (c.for_each_mut.ensures k d below).1 in
    let served : IsServed b one.argument.now one.after_call.now = search rules in
    subst (λ (seat : Seated). IsServed b seat (slice_index_or c.for_each_mut.new.s k d)) one.argument_is (subst (λ (seat : Seated). IsServed b one.argument.now seat) one.left served))
