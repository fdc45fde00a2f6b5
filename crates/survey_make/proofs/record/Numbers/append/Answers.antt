use Rattle.std.proofs.Common.{rules, ◌+◌, ◌-◌, [], ◌∷◌}
use Rattle.view_meaning.specs.Survey.{class_place, rgb_place}
use Rattle.view_meaning.specs.Layout.{least_length}
use Rattle.survey_make.specs.Made.{zeros, place_bytes, behind_class, record_bytes}
use Rattle.survey_make.proofs.Pieces.{append_4}
use Rattle.survey_make.proofs.record.Numbers.append.Goals as goal

pub returns-clause-appended : goal.returns-clause-appended
unfolding record_bytes
returns-clause-appended c = append_4 c.args.bytes.now.items c.append_place.new.bytes.items c.extend_by.new.self.items c.push_within.new.self.items c.append_colour.new.bytes.items
    (place_bytes c.args.self.now.x c.args.self.now.y c.args.self.now.z c.args.self.now.intensity) (zeros (class_place c.args.format - 14)) (c.args.self.now.class ∷ [])
    (behind_class (class_place c.args.format + 1) (rgb_place c.args.format) (least_length c.args.format) c.args.self.now.intensity c.args.self.now.x c.args.self.now.y)
    c.append_place.ensures.appended (search rules) (search rules) c.append_colour.ensures.appended
