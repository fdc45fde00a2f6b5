use Rattle.std.proofs.Common.{◌≡◌, ◌-◌, List, ℕ, subst, sym, map, arith}
use Rattle.std.specs.List.{range_with_len}
use Rattle.view_base.specs.declared.place.Point.{Point}
use Rattle.view_meaning.specs.Survey.{point_of}
use Rattle.view_meaning.proofs.Reading.{point-from_part}
use Rattle.grid_blocks.specs.LeastBox.{IsLeastBox}
use Rattle.grid_blocks.proofs.Boxes.{least_box_begins, points_more}
use Rattle.grid_blocks.proofs.least_box.box_of_records.Goals as goal

pub loop-i-init : goal.loop-i-init
loop-i-init c = record {
  least = least_box_begins c.args.survey.now c.args.first _ c.xyz-p.result (omega arith) (point-from_part c.args.survey.now c.args.first _ c.xyz-p.result c.point_bytes.ensures.least c.point_bytes.ensures.bytes c.xyz-p.ensures);
  begun = omega arith;
}

pub loop-i-preserved : goal.loop-i-preserved
loop-i-preserved c =
    let p : c.xyz.result ≡ point_of c.args.survey.now c.loop-i.i = point-from_part c.args.survey.now c.loop-i.i _ c.xyz.result c.point_bytes-in-loop-i.ensures.least c.point_bytes-in-loop-i.ensures.bytes c.xyz.ensures in
    record {
      least = subst (λ (l : List Point). IsLeastBox l c.widened-area.result)
          (sym (points_more c.args.survey.now c.args.first c.loop-i.i (c.loop-i.i - c.args.first) _ c.xyz.result (omega arith) (omega arith) p))
          (c.widened-area.ensures _ c.loop-i.invariant.least);
      begun = omega arith;
    }

pub returns : goal.returns
returns c =
    let all : c.loop-i.i - c.args.first ≡ c.args.count = omega arith in
    subst (λ (n : ℕ). IsLeastBox (map (point_of c.args.survey.now) (range_with_len c.args.first n)) c.loop-i.area) all c.loop-i.invariant.least
