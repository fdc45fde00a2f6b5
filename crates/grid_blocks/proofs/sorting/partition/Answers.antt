use Rattle.std.proofs.Common.{rules, ◌∙◌}
use Rattle.std.proofs.lemmas.List.Sorted.{IsPermutation-trans}
use Rattle.grid_blocks.proofs.sorting.partition.Goals as goal

pub loop-at-preserved : goal.loop-at-preserved
loop-at-preserved c =
    let inv = c.loop-at.invariant in
    (IsPermutation-trans _ _ _ inv.0 c.swap.ensures.permutation, c.swap.ensures.len ∙ inv.1, search rules)
