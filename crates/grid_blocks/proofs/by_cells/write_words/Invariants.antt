use Rattle.std.proofs.Common.{◌≡◌, ◌+◌, length}
use Rattle.grid_blocks.specs.Order.{word_of}
use Rattle.grid_blocks.proofs.Filling.{IsFilled}
use Rattle.grid_blocks.proofs.by_cells.write_words.Given as goal

abbrev pub invariant-loop-place : goal.invariant-loop-place
invariant-loop-place l = record {
  size : length l.words ≡ length l.fn.words;
  filled : IsFilled (λ k. word_of l.survey l.grid.area l.grid.exponent (l.first + k)) 0 l.place l.words;
}
