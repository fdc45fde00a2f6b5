use Rattle.std.proofs.Common.{◌≡◌, ◌∙◌, ◌+◌, arith, refl, length, length-set}
use Rattle.view_meaning.specs.Survey.{point_of, record_count}
use Rattle.view_meaning.proofs.Reading.{point-from_part}
use Rattle.grid_blocks.specs.Order.{word_of}
use Rattle.grid_blocks.proofs.Boxes.{inside_least}
use Rattle.grid_blocks.proofs.Filling.{filled_none, filled_more, filled_range}
use Rattle.grid_blocks.proofs.Orders.{word_made}
use Rattle.grid_blocks.proofs.by_cells.write_words.Goals as goal

pub key-key-requires : goal.key-key-requires
key-key-requires c =
    let i = c.args.first + c.loop-place.place in
    inside_least c.args.survey.now (record_count c.args.survey.now) i c.args.grid.now.area c.xyz.result c.requires.around (omega (arith, c.requires.within, c.loop-place.invariant.size, c.loop-place-test.true))
    (point-from_part c.args.survey.now i _ c.xyz.result c.point_bytes.ensures.least c.point_bytes.ensures.bytes c.xyz.ensures)

pub loop-place-init : goal.loop-place-init
loop-place-init c = record { size = refl; filled = filled_none (λ k. word_of c.args.survey.now c.args.grid.now.area c.args.grid.now.exponent (c.args.first + k)) 0 c.args.words.now }

pub loop-place-preserved : goal.loop-place-preserved
loop-place-preserved c =
    let i = c.args.first + c.loop-place.place in
    let p : c.xyz.result ≡ point_of c.args.survey.now i = point-from_part c.args.survey.now i _ c.xyz.result c.point_bytes.ensures.least c.point_bytes.ensures.bytes c.xyz.ensures in
    record {
      size = length-set c.loop-place.words c.loop-place.place _ ∙ c.loop-place.invariant.size;
      filled = filled_more (λ k. word_of c.args.survey.now c.args.grid.now.area c.args.grid.now.exponent (c.args.first + k)) 0 c.loop-place.place c.loop-place.words _ (omega (arith, c.loop-place.invariant.size, c.loop-place-test.true))
          (word_made c.args.survey.now c.args.grid.now.area c.args.grid.now.exponent i c.key-key.result c.from.result c.xyz.result p c.key-key.ensures.key c.key-key.ensures.small c.from.ensures) c.loop-place.invariant.filled;
    }

pub returns : goal.returns
returns c =
    filled_range (word_of c.args.survey.now c.args.grid.now.area c.args.grid.now.exponent) 0 c.args.first (length c.args.words.now) c.loop-place.place c.loop-place.words c.loop-place.invariant.size (omega (arith, c.loop-place-test.false)) c.loop-place.invariant.filled
