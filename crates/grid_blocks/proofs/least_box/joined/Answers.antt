use Rattle.grid_blocks.proofs.Boxes.{least_box-append}
use Rattle.grid_blocks.proofs.least_box.joined.Goals as goal

pub returns : goal.returns
returns c = λ xs ys front back.
    least_box-append xs ys c.args.front c.args.back _ (record {
      min_x = c.lesser.ensures.x;
      min_y = c.lesser.ensures.y;
      min_z = c.lesser.ensures.z;
      max_x = c.greater.ensures.x;
      max_y = c.greater.ensures.y;
      max_z = c.greater.ensures.z;
    }) front back
