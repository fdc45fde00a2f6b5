use Rattle.std.proofs.Common.{◌≡◌, ◌<◌, ◌≤◌, sym, arith, pos, to_z}
use Rattle.std.specs.Int.{w128}
use Rattle.std.proofs.lemmas.Int.{ints}
use Rattle.view_base.specs.Text.{words}
use Rattle.view_meaning.specs.Classes.{top_class}
use Rattle.edit_ops.proofs.EditLines.{edit_of-misfit, edit_of-above, edit_of-edit}
use Rattle.edit_ops.proofs.reading.read_edit.Goals as goal

pub returns-then-fields-from : goal.returns-then-fields-from
returns-then-fields-from c =
    let f = c.in-Ok.fields in
    let above : top_class c.args.format < f.to = omega (arith, c.top_class.ensures) in
    let e = c.in-Ok.ensures in
    let same : to_z w128 f.to ≡ pos f.to = omega (arith, ints, e.small) in
    rw same (sym (edit_of-above (words c.args.line.now) c.args.format f.to e.fit e.to above))

pub returns-else-fields-from : goal.returns-else-fields-from
returns-else-fields-from c =
    let f = c.in-Ok.fields in
    let within : f.to ≤ top_class c.args.format = omega (arith, c.top_class.ensures) in
    let e = c.in-Ok.ensures in
    sym (edit_of-edit (words c.args.line.now) c.args.format f.to f.area f.from e.fit e.min e.max e.from e.to within)

pub returns-in-Err : goal.returns-in-Err
returns-in-Err c = sym (edit_of-misfit (words c.args.line.now) c.args.format c.in-Err.at c.in-Err.ensures.misfit)
