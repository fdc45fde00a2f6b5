use Rattle.grid_blocks.proofs.Boxes.{least_box_more}
use Rattle.grid_blocks.proofs.least_box.widened.Goals as goal

pub returns : goal.returns
returns c = λ points least.
    least_box_more points c.args.area _ c.args.p (record {
      min_x = c.lesser.ensures.x;
      min_y = c.lesser.ensures.y;
      min_z = c.lesser.ensures.z;
      max_x = c.greater.ensures.x;
      max_y = c.greater.ensures.y;
      max_z = c.greater.ensures.z;
    }) least
