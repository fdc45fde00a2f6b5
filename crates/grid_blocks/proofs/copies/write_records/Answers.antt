use Rattle.std.proofs.Common.{◌∙◌, ◌%◌, ◌^◌, ℕ, get_or, refl, arith, length-set, false, pos}
use Rattle.view_meaning.specs.Survey.{point_of, withheld_of}
use Rattle.view_meaning.proofs.Reading.{point-from_part}
use Rattle.grid_blocks.proofs.Filling.{filled_none, filled_more, filled_map, withheld-from_part}
use Rattle.grid_blocks.proofs.copies.write_records.Goals as goal

pub point_bytes-rec-requires : goal.point_bytes-rec-requires
point_bytes-rec-requires c = c.requires.named c.loop-place.place 0 c.loop-place-test.true

pub loop-place-init : goal.loop-place-init
loop-place-init c = record {
  numbers_size = c.requires.numbers_size;
  points_size = c.requires.points_size;
  bits_size = c.requires.bits_size;
  numbers = filled_none (λ k. get_or c.args.words.now k 0 % 2 ^ 26) 0 c.args.numbers.now;
  points = filled_none (λ k. point_of c.args.survey.now (get_or c.args.words.now k 0 % 2 ^ 26)) _ c.args.points.now;
  bits = filled_none (λ k. withheld_of c.args.survey.now (get_or c.args.words.now k 0 % 2 ^ 26)) _ c.args.bits.now;
}

pub loop-place-preserved : goal.loop-place-preserved
loop-place-preserved c =
    let number = get_or c.args.words.now c.loop-place.place 0 % 2 ^ 26 in
    record {
      numbers_size = length-set c.loop-place.numbers c.loop-place.place _ ∙ c.loop-place.invariant.numbers_size;
      points_size = length-set c.loop-place.points c.loop-place.place _ ∙ c.loop-place.invariant.points_size;
      bits_size = length-set c.loop-place.bits c.loop-place.place _ ∙ c.loop-place.invariant.bits_size;
      numbers = filled_more (λ k. get_or c.args.words.now k 0 % 2 ^ 26) 0 c.loop-place.place c.loop-place.numbers _ (omega (arith, c.loop-place.invariant.numbers_size, c.loop-place-test.true)) refl c.loop-place.invariant.numbers;
      points = filled_more (λ k. point_of c.args.survey.now (get_or c.args.words.now k 0 % 2 ^ 26)) (record { x = pos 0; y = pos 0; z = pos 0 }) c.loop-place.place c.loop-place.points c.xyz.result (omega (arith, c.loop-place.invariant.points_size, c.loop-place-test.true))
          (point-from_part c.args.survey.now number _ c.xyz.result c.point_bytes-rec.ensures.least c.point_bytes-rec.ensures.bytes c.xyz.ensures) c.loop-place.invariant.points;
      bits = filled_more (λ k. withheld_of c.args.survey.now (get_or c.args.words.now k 0 % 2 ^ 26)) false c.loop-place.place c.loop-place.bits c.withheld.result (omega (arith, c.loop-place.invariant.bits_size, c.loop-place-test.true))
          (withheld-from_part c.args.survey.now number _ _ c.withheld.result c.point_bytes-rec.ensures.least c.point_bytes-rec.ensures.bytes c.header.ensures.fields.format c.withheld.ensures) c.loop-place.invariant.bits;
    }

pub returns : goal.returns
returns c = record {
  numbers_are = filled_map (λ (w : ℕ). w % 2 ^ 26) 0 0 c.args.words.now c.loop-place.numbers c.loop-place.place c.loop-place.invariant.numbers_size c.loop-place-test.false c.loop-place.invariant.numbers;
  points_are = filled_map (λ (w : ℕ). point_of c.args.survey.now (w % 2 ^ 26)) 0 _ c.args.words.now c.loop-place.points c.loop-place.place c.loop-place.invariant.points_size c.loop-place-test.false c.loop-place.invariant.points;
  bits_are = filled_map (λ (w : ℕ). withheld_of c.args.survey.now (w % 2 ^ 26)) 0 _ c.args.words.now c.loop-place.bits c.loop-place.place c.loop-place.invariant.bits_size c.loop-place-test.false c.loop-place.invariant.bits;
}
