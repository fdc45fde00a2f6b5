use Rattle.std.proofs.Common.{rules, ◌≡◌, ◌+◌, ◌-◌, ℕ, arith}
use Rattle.std.specs.List.{count_by, range_with_len}
use Rattle.view_meaning.specs.Classes.{passes}
use Rattle.sessions.proofs.Counted.{counted_both}
use Rattle.sessions.proofs.counting.+count_side_by_side+fn-count_side_by_side-join_mut+arg2+fn-count_side_by_side-join_mut+arg3.Goals as goal

pub returns-clause-counted : goal.returns-clause-counted
returns-clause-counted g t c =
    let half : ℕ = c.front_share-half.result in
    let low : c.join_mut-front.result.0 ≡ count_by (passes c.args.survey.now c.args.classes.now c.args.filter.now) (range_with_len c.args.first half) = search rules in
    let high : c.join_mut-front.result.1 ≡ count_by (passes c.args.survey.now c.args.classes.now c.args.filter.now) (range_with_len (c.args.first + half) (c.args.count - half)) = search rules in
    counted_both (passes c.args.survey.now c.args.classes.now c.args.filter.now) c.args.first half (c.args.count - half) c.args.count c.join_mut-front.result.0 c.join_mut-front.result.1 (omega (arith, c.front_share-half.ensures)) low high
