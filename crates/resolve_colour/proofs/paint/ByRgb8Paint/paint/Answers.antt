use Rattle.std.proofs.Common.{◌∙◌, min}
use Rattle.resolve_colour.proofs.Colouring.{channels-each, colour-rgb8}
use Rattle.resolve_colour.proofs.paint.ByRgb8Paint.paint.Goals as goal

pub returns : goal.returns
returns c = channels-each (λ n. min n 255) c.rgb_of-red.result _ _ _ _ c.at_most_a_byte.ensures c.at_most_a_byte-2.ensures c.at_most_a_byte-3.ensures
    (c.rgb_of-red.ensures (λ n. min n 255) ∙ colour-rgb8 c.args.survey.now c.args._classes.now c.args.number)
