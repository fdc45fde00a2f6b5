use Rattle.std.proofs.Common.{◌≡◌, ◌%◌, ◌^◌, length, get_or, false, pos}
use Rattle.view_meaning.specs.Survey.{point_of, withheld_of}
use Rattle.grid_blocks.proofs.Filling.{IsFilled}
use Rattle.grid_blocks.proofs.copies.write_records.Given as goal

abbrev pub invariant-loop-place : goal.invariant-loop-place
invariant-loop-place l = record {
  numbers_size : length l.numbers ≡ length l.words;
  points_size : length l.points ≡ length l.words;
  bits_size : length l.bits ≡ length l.words;
  numbers : IsFilled (λ k. get_or l.words k 0 % 2 ^ 26) 0 l.place l.numbers;
  points : IsFilled (λ k. point_of l.survey (get_or l.words k 0 % 2 ^ 26)) (record { x = pos 0; y = pos 0; z = pos 0 }) l.place l.points;
  bits : IsFilled (λ k. withheld_of l.survey (get_or l.words k 0 % 2 ^ 26)) false l.place l.bits;
}
