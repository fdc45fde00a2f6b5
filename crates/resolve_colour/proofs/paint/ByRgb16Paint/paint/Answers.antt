use Rattle.std.proofs.Common.{◌∙◌, ◌/◌}
use Rattle.resolve_colour.proofs.Colouring.{channels-each, colour-rgb16}
use Rattle.resolve_colour.proofs.paint.ByRgb16Paint.paint.Goals as goal

pub returns : goal.returns
returns c = channels-each (λ n. n / 256) c.rgb_of-red.result _ _ _ _ c.upper_byte.ensures c.upper_byte-2.ensures c.upper_byte-3.ensures
    (c.rgb_of-red.ensures (λ n. n / 256) ∙ colour-rgb16 c.args.survey.now c.args._classes.now c.args.number)
