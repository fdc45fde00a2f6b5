use Rattle.std.proofs.Common.{◌∙◌, ap}
use Rattle.std.specs.List.{range_with_len}
use Rattle.grid_blocks.proofs.Orders.{numbered}
use Rattle.grid_blocks.proofs.by_number.build_by_number.Goals as goal

pub returns-clause-blocks : goal.returns-clause-blocks
returns-clause-blocks c =
    numbered c.args.survey.now c.cut.new.list.items c.of_numbers.result c.of_numbers.ensures.list (c.of_numbers.ensures.members ∙ ap (range_with_len 0) c.records-2.ensures.count) c.of_numbers.ensures.copies c.in_ok-cut.ensures.cut c.in_ok-cut.ensures.areas
