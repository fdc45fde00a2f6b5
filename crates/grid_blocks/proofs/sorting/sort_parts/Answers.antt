use Rattle.std.proofs.lemmas.List.Sorted.{IsPermutation-trans}
use Rattle.grid_blocks.proofs.sorting.sort_parts.Goals as goal

pub returns-clause-permutation : goal.returns-clause-permutation
returns-clause-permutation g c = IsPermutation-trans _ _ _ c.sort_side_by_side.ensures.permutation c.sort_unstable-2.ensures.permutation
