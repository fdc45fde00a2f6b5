use Rattle.std.proofs.Common.{rules}
use Rattle.std.specs.Int.{to_le_bytes, w16, w32}
use Rattle.survey_make.specs.Made.{place_bytes}
use Rattle.survey_make.proofs.Pieces.{append_4}
use Rattle.survey_make.proofs.record.Numbers.append_place.Goals as goal

pub returns-clause-appended : goal.returns-clause-appended
unfolding place_bytes
returns-clause-appended c = append_4 c.args.bytes.now.items c.append_within.new.self.items c.append_within-2.new.self.items c.append_within-3.new.self.items c.append_within-4.new.self.items
    (to_le_bytes w32 c.args.self.now.x) (to_le_bytes w32 c.args.self.now.y) (to_le_bytes w32 c.args.self.now.z) (to_le_bytes w16 c.args.self.now.intensity)
    (search rules) (search rules) (search rules) (search rules)
