use Rattle.las_points.proofs.Fields.{withheld-from_part}
use Rattle.sessions.proofs.filtering.is_withheld.Goals as goal

pub returns : goal.returns
returns c = withheld-from_part c.args.survey.now c.args.number _ _ c.withheld.result c.header.ensures.fields.format c.point_bytes.ensures.least c.point_bytes.ensures.bytes c.withheld.ensures
