use Rattle.std.proofs.Common.{length, refl, arith}
use Rattle.grid_blocks.specs.Order.{word_of}
use Rattle.grid_blocks.proofs.Filling.{made-halves}
use Rattle.grid_blocks.proofs.by_cells.+halves.Goals as goal

pub write_side_by_side-returns : goal.write_side_by_side-returns
write_side_by_side-returns g t c =
    made-halves (word_of c.args.survey.now c.args.grid.now.area c.args.grid.now.exponent) c.args.first _ _ _ (length c.args.words.now) _ _ refl
    (omega (arith, c.split_at_mut-front.ensures.front_len, c.split_at_mut-front.ensures.back_len, c.front_share.ensures.within)) c.write_both.ensures.front c.write_both.ensures.back
