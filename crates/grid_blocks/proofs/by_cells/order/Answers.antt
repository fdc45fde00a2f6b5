use Rattle.std.proofs.Common.{◌≡◌, ℕ, List, sym, subst, map, arith}
use Rattle.std.specs.List.{range_with_len}
use Rattle.view_base.specs.declared.place.Box3.{Box3}
use Rattle.view_meaning.specs.Survey.{point_of, record_count}
use Rattle.grid_blocks.specs.LeastBox.{IsLeastBox}
use Rattle.grid_blocks.proofs.Orders.{order_sorted, length-order, numbers_below}
use Rattle.grid_blocks.proofs.by_cells.order.Goals as goal

all_records : (b : List ℕ) (n : ℕ) (area grid : Box3) → n ≡ record_count b → grid ≡ area → IsLeastBox (map (point_of b) (range_with_len 0 n)) area → IsLeastBox (map (point_of b) (range_with_len 0 (record_count b))) grid
all_records b n area grid all same least =
    subst (λ (n : ℕ). IsLeastBox (map (point_of b) (range_with_len 0 n)) grid) all (subst (λ (a : Box3). IsLeastBox (map (point_of b) (range_with_len 0 n)) a) (sym same) least)

pub words_of-requires-clause-around : goal.words_of-requires-clause-around
words_of-requires-clause-around g c = λ _ _. all_records c.args.survey.now c.records.result c.box_side_by_side.result c.of-grid.result.area c.records.ensures.count c.of-grid.ensures c.box_side_by_side.ensures

pub returns-clause-order : goal.returns-clause-order
returns-clause-order g c =
    order_sorted c.args.survey.now _ _ c.of-grid.result.area c.of-grid.result.exponent
    (all_records c.args.survey.now c.records.result c.box_side_by_side.result c.of-grid.result.area c.records.ensures.count c.of-grid.ensures c.box_side_by_side.ensures) c.of-grid.result.is_exponent c.in_ok-words.ensures c.sort.ensures.permutation c.sort.ensures.sorted

pub returns-clause-size : goal.returns-clause-size
returns-clause-size g c = length-order c.args.survey.now _ (returns-clause-order g c)

pub returns-clause-numbers : goal.returns-clause-numbers
returns-clause-numbers g c = numbers_below c.args.survey.now _ (omega (arith, c.records.ensures)) (returns-clause-order g c)
