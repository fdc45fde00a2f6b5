use Rattle.std.proofs.Common.{◌≡◌, ◌-◌, length, arith, rules}
use Rattle.view_meaning.specs.Frame.{word_colour}
use Rattle.resolve_colour.proofs.Colouring.{coloured_more}
use Rattle.resolve_colour.proofs.pixels.colour_pixels.Goals as goal

pub loop-pixel-preserved : goal.loop-pixel-preserved
loop-pixel-preserved g c =
    let words = g.W.PixelWords.words c.args.words.now in
    let first = c.args.first in
    let pixel = c.loop-pixel.pixel in
    let three : length c.paint_over.new.pixel ≡ 3 = search rules in
    let more = coloured_more (word_colour c.args.records.now.survey.now c.args.records.now.classes.now g.P.Paint.colouring) words c.loop-pixel.colours c.paint_over.new.pixel first (c.args.end - first) pixel c.word.result
    (omega (arith, c.requires.order, c.requires.within, c.loop-pixel-test.true)) (omega (arith, c.loop-pixel-test.true)) c.word.ensures c.paint_over.ensures three
    c.loop-pixel.invariant.long c.loop-pixel.invariant.done in
    record { long = more.0; done = more.1 }
