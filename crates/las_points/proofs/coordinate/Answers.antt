use Rattle.std.proofs.Common.{FitsSigned, w32, rules, ◌-◌, ◌∙◌, arith, length}
use Rattle.std.proofs.lemmas.Int.{to_z-of_z}
use Rattle.view_meaning.proofs.Reading.{i32_at-from_part}
use Rattle.las_points.proofs.coordinate.Goals as goal

pub returns : goal.returns
returns c =
    let fits : FitsSigned w32 c.read_i32.result = search rules in
    to_z-of_z w32 c.read_i32.result fits ∙ c.read_i32.ensures ∙ i32_at-from_part c.args.at (length c.args.rec.now - c.args.at) c.args.rec.now (omega arith)
