use Rattle.std.proofs.Common.{rules, [], ◌∷◌}
use Rattle.std.specs.Int.{to_le_bytes, w16, w32}
use Rattle.survey_make.specs.Made.{zeros}
use Rattle.survey_make.proofs.Pieces.{append_4}
use Rattle.survey_make.proofs.making.append_sizes.Goals as goal

pub returns-clause-appended : goal.returns-clause-appended
returns-clause-appended c = append_4 c.args.bytes.now.items c.append_within.new.self.items c.append_within-2.new.self.items c.extend_by.new.self.items c.push_within.new.self.items
    (to_le_bytes w16 375) (to_le_bytes w32 375) (zeros 4) (c.args.format ∷ [])
    (search rules) (search rules) (search rules) (search rules)
