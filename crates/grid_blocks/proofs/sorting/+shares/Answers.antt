use Rattle.std.proofs.lemmas.List.Sorted.{IsPermutation-append, IsPermutation-trans}
use Rattle.grid_blocks.proofs.sorting.+shares.Goals as goal

pub sort_side_by_side-returns-clause-permutation : goal.sort_side_by_side-returns-clause-permutation
sort_side_by_side-returns-clause-permutation g t c =
    let cut = c.split_at_mut-front.ensures in
    let both = c.sort_both.ensures in
    IsPermutation-trans _ _ _ c.partition-mid.ensures.permutation
    (rw cut.value (IsPermutation-append _ _ _ _ both.front both.back))
