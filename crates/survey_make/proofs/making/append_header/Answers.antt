use Rattle.std.proofs.Common.{[], ◌∷◌, ◌++◌, codes}
use Rattle.std.specs.Int.{to_le_bytes, w16, w32, w64}
use Rattle.view_meaning.specs.Layout.{least_length}
use Rattle.survey_make.specs.Made.{zeros, made_header}
use Rattle.survey_make.proofs.Pieces.{append_3}
use Rattle.survey_make.proofs.making.append_header.Goals as goal

pub returns-clause-appended : goal.returns-clause-appended
unfolding made_header
returns-clause-appended c = append_3 c.args.bytes.now.items c.append_version.new.bytes.items c.append_sizes.new.bytes.items c.append_counts.new.bytes.items
    (codes "LASF" ++ zeros 20 ++ (1 ∷ 4 ∷ []) ++ zeros 68)
    (to_le_bytes w16 375 ++ to_le_bytes w32 375 ++ zeros 4 ++ (c.args.format ∷ []))
    (to_le_bytes w16 (least_length c.args.format) ++ zeros 140 ++ to_le_bytes w64 c.args.records ++ zeros 120)
    c.append_version.ensures.appended c.append_sizes.ensures.appended c.append_counts.ensures.appended
