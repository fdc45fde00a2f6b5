use Rattle.std.proofs.Common.{rules}
use Rattle.std.specs.Int.{to_le_bytes, w16, w64}
use Rattle.view_meaning.specs.Layout.{least_length}
use Rattle.survey_make.specs.Made.{zeros}
use Rattle.survey_make.proofs.Pieces.{append_4}
use Rattle.survey_make.proofs.making.append_counts.Goals as goal

pub returns-clause-appended : goal.returns-clause-appended
returns-clause-appended c = append_4 c.args.bytes.now.items c.append_within.new.self.items c.extend_by.new.self.items c.append_within-2.new.self.items c.extend_by-2.new.self.items
    (to_le_bytes w16 (least_length c.args.format)) (zeros 140) (to_le_bytes w64 c.args.records) (zeros 120)
    (search rules) (search rules) (search rules) (search rules)
