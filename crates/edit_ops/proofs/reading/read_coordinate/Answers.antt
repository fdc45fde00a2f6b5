use Rattle.edit_ops.proofs.EditLines.{fits-coordinate}
use Rattle.edit_ops.proofs.reading.read_coordinate.Goals as goal

pub read-requires-clause-kind : goal.read-requires-clause-kind
read-requires-clause-kind c = λ word. fits-coordinate c.args.rest.now.place word c.requires.first c.requires.last
