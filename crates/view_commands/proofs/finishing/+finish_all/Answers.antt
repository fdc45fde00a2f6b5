use Rattle.std.proofs.Common.{rules, ◌≡◌, ◌∷◌}
use Rattle.std.specs.Vec.Iter.{into_iter_items}
use Rattle.view_words.specs.CommandLine.{texts}
use Rattle.view_commands.proofs.Chains.{finish-others}
use Rattle.view_commands.proofs.finishing.+finish_all.Goals as goal

pub finish_all-requires-clause-seats : goal.finish_all-requires-clause-seats
finish_all-requires-clause-seats g t c κs within =
    let is : into_iter_items c.args.seats ≡ c.in-Some.seat ∷ into_iter_items c.next.new.self = search rules in
    finish-others _ _ (texts c.args.words.now) c.args.shared.now.name _ c.in-Some.seat (into_iter_items c.next.new.self) (into_iter_items c.args.seats) c.finish.ensures.kept.0 is c.finish.ensures.kept.2 c.requires.seats
