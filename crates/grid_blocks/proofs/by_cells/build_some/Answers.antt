use Rattle.std.proofs.Common.{map, ◌∙◌, ap, sym}
use Rattle.view_meaning.specs.Survey.{point_of, withheld_of}
use Rattle.grid_blocks.proofs.Copying.{points-copied, bits-copied}
use Rattle.grid_blocks.proofs.Orders.{IsBuilt, built_of, built_blocks, built_by_cells, copied}
use Rattle.grid_blocks.proofs.by_cells.build_some.Goals as goal

pub returns-clause-blocks : goal.returns-clause-blocks
returns-clause-blocks g c =
    let b = c.args.survey.now in
    let built : IsBuilt b c.in_ok-words.words.items c.of_copies.result =
    built_of b c.in_ok-words.words.items c.deref.result.now c.deref-2.result.now c.deref-3.result.now c.in_ok-list.list.items c.of_copies.result c.in_ok-words.ensures.order c.in_ok-words.ensures.few
    c.deref.ensures.value c.deref-2.ensures.value c.of_copies.ensures.list (c.of_copies.ensures.members ∙ c.of-copies.ensures.numbers_are)
    (c.deref-3.ensures.value ∙ points-copied c.args.survey.now c.deref.result.now c.of-copies.result.numbers.items c.of-copies.result.points.items c.of-copies.result.withheld.items c.of-copies.ensures ∙ ap (map (point_of b)) (sym c.of_copies.ensures.members)) c.in_ok-list.ensures.cut c.in_ok-list.ensures.areas c.in_ok-list.ensures.runs in
    built_blocks b c.in_ok-words.words.items c.of_copies.result built
    (copied b c.of_copies.result.members c.of_copies.result.copies c.of-copies.result.points.items c.of-copies.result.withheld.items c.of_copies.ensures.copies
    (points-copied c.args.survey.now c.deref.result.now c.of-copies.result.numbers.items c.of-copies.result.points.items c.of-copies.result.withheld.items c.of-copies.ensures ∙ ap (map (point_of b)) (sym c.of_copies.ensures.members)) (bits-copied c.args.survey.now c.deref.result.now c.of-copies.result.numbers.items c.of-copies.result.points.items c.of-copies.result.withheld.items c.of-copies.ensures ∙ ap (map (withheld_of b)) (sym c.of_copies.ensures.members)))

pub returns-clause-cells : goal.returns-clause-cells
returns-clause-cells g c =
    let b = c.args.survey.now in
    built_by_cells b c.in_ok-words.words.items c.of_copies.result
    (built_of b c.in_ok-words.words.items c.deref.result.now c.deref-2.result.now c.deref-3.result.now c.in_ok-list.list.items c.of_copies.result c.in_ok-words.ensures.order c.in_ok-words.ensures.few
    c.deref.ensures.value c.deref-2.ensures.value c.of_copies.ensures.list (c.of_copies.ensures.members ∙ c.of-copies.ensures.numbers_are)
    (c.deref-3.ensures.value ∙ points-copied c.args.survey.now c.deref.result.now c.of-copies.result.numbers.items c.of-copies.result.points.items c.of-copies.result.withheld.items c.of-copies.ensures ∙ ap (map (point_of b)) (sym c.of_copies.ensures.members)) c.in_ok-list.ensures.cut c.in_ok-list.ensures.areas c.in_ok-list.ensures.runs)
