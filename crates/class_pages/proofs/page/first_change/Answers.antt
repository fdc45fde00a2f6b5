use Rattle.std.proofs.Common.{◌+◌, arith, rules}
use Rattle.view_meaning.proofs.Reading.{point-from_part}
use Rattle.class_pages.proofs.Steps.{same_more}
use Rattle.class_pages.proofs.page.first_change.Goals as goal

pub loop-i-preserved : goal.loop-i-preserved
loop-i-preserved g c =
    same_more c.args.survey.now c.args.classes.now (g.T.Chooser.picks c.args.chooser.now) c.args.first c.loop-i.i (c.loop-i.i + 1) c.choose.result c.xyz.result (omega arith)
    (point-from_part c.args.survey.now (c.args.first + c.loop-i.i) _ c.xyz.result c.point_bytes.ensures.least c.point_bytes.ensures.bytes c.xyz.ensures)
    c.choose.ensures (search rules) c.loop-i.invariant
