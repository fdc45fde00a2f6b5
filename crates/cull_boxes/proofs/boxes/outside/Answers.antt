use Rattle.cull_boxes.proofs.Corners.{excludes-all}
use Rattle.cull_boxes.proofs.boxes.outside.Goals as goal

pub returns-clause-not_in_view : goal.returns-clause-not_in_view
returns-clause-not_in_view c = λ is p within seen.
    excludes-all _ c.args.area.now p (c.some_excludes.ensures.0 is) within ((c.half_spaces.ensures.in_view p).0 seen)
