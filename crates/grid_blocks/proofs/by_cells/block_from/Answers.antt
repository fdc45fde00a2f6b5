use Rattle.std.proofs.Common.{◌≡◌, ◌-◌, ◌+◌, ℕ, take, drop, length, refl, subst, arith}
use Rattle.grid_blocks.specs.LeastBox.{IsLeastBox}
use Rattle.grid_blocks.proofs.Runs.{run_from_part}
use Rattle.grid_blocks.proofs.by_cells.block_from.Goals as goal

pub returns-clause-area : goal.returns-clause-area
returns-clause-area c =
    let size : c.args.first + c.run_length-count.result - c.args.first ≡ c.run_length-count.result = omega arith in
    subst (λ (n : ℕ). IsLeastBox (take n (drop c.args.first c.args.points.now)) c.box_of_points.result) size c.box_of_points.ensures

pub returns-clause-run : goal.returns-clause-run
returns-clause-run c =
    run_from_part c.args.words.now c.args.first (length c.args.words.now - c.args.first) _ refl refl c.run_length-count.ensures.some c.run_length-count.ensures.within c.run_length-count.ensures.alone c.run_length-count.ensures.full
