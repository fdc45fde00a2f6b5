use Rattle.std.proofs.Common.{◌≡◌, ◌*◌, ◌-◌, ◌++◌, ℕ, List, length, replicate, ap, ◌∙◌, arith}
use Rattle.std.specs.List.{flat_map}
use Rattle.view_meaning.specs.Frame.{word_colour}
use Rattle.resolve_colour.proofs.Colouring.{part-whole, tail_black, tail_length, tail_written}
use Rattle.resolve_colour.proofs.pixels.append_colours.Goals as goal

pub returns : goal.returns
returns g c =
    let old = c.args.out.now.items in
    let whole = c.extend_by.new.self.items in
    let words = g.W.PixelWords.words c.args.words.now in
    let colours = c.colour_side_by_side.new.colours in
    let m = 3 * c.len-pixels.result in
    let tail : length c.tail_mut-colours.result.now ≡ m = ap length c.tail_mut-colours.ensures.tail ∙ tail_length old whole c.len-from.result m c.extend_by.ensures.extended c.len-from.ensures in
    let size : length colours ≡ m = omega (arith, tail, c.colour_side_by_side.auto.colours) in
    tail_written old whole colours c.len-from.result m c.extend_by.ensures.extended c.len-from.ensures size
    ∙ ap (λ (l : List ℕ). old ++ l) (c.colour_side_by_side.ensures ∙ ap (flat_map (word_colour c.args.survey.now c.args.classes.now g.P.Paint.colouring)) (part-whole words c.len-pixels.result c.len-pixels.ensures.value))

pub colour_side_by_side-requires-after_bounds : goal.colour_side_by_side-requires-after_bounds
colour_side_by_side-requires-after_bounds g c κs lives = let all : c.len-pixels.result ≡ c.len-pixels.result - 0 = omega arith in record {
  can_colour = c.requires.can_colour;
  names = c.requires.names;
  records = c.requires.records;
  order = omega arith;
  within = omega (arith, c.len-pixels.ensures.value);
  black = c.tail_mut-colours.ensures.tail ∙ tail_black c.args.out.now.items c.extend_by.new.self.items c.len-from.result (3 * c.len-pixels.result) c.extend_by.ensures.extended c.len-from.ensures
      ∙ ap (λ (n : ℕ). replicate (3 * n) 0) all;
}
