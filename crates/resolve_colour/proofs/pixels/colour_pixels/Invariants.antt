use Rattle.std.proofs.Common.{◌≡◌, ◌*◌, ◌-◌, ◌++◌, length, take, drop, replicate}
use Rattle.std.specs.List.{flat_map}
use Rattle.view_meaning.specs.Frame.{word_colour}
use Rattle.resolve_colour.proofs.pixels.colour_pixels.Given as goal

abbrev pub invariant-loop-pixel : goal.invariant-loop-pixel
invariant-loop-pixel g l = record {
  long : length (flat_map (word_colour l.records.survey.now l.records.classes.now g.P.Paint.colouring) (take l.pixel (drop l.first (g.W.PixelWords.words l.words)))) ≡ 3 * l.pixel;
  done : l.colours ≡ flat_map (word_colour l.records.survey.now l.records.classes.now g.P.Paint.colouring) (take l.pixel (drop l.first (g.W.PixelWords.words l.words))) ++ replicate (3 * (l.end - l.first - l.pixel)) 0;
}
