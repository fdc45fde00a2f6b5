use Rattle.std.proofs.Common.{◌∙◌, ◌/◌, ℕ, ap}
use Rattle.las_points.proofs.Fields.{intensity-from_part}
use Rattle.resolve_colour.proofs.Colouring.{colour-intensity}
use Rattle.resolve_colour.proofs.paint.ByIntensityPaint.paint.Goals as goal

pub returns : goal.returns
returns c = colour-intensity c.args.survey.now c.args._classes.now c.args.number c.upper_byte.result
    (c.upper_byte.ensures ∙ ap (λ (n : ℕ). n / 256) (intensity-from_part c.args.survey.now c.args.number _ _ c.point_bytes.ensures.least c.point_bytes.ensures.bytes c.intensity.ensures))
