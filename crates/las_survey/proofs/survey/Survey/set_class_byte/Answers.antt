use Rattle.std.proofs.Common.{◌≡◌, ◌≤◌, ◌<◌, ℕ, List, length, ap, arith}
use Rattle.view_meaning.specs.Survey.{points_end}
use Rattle.las_survey.specs.Beside.{class_at}
use Rattle.las_survey.specs.Kept.{IsKept}
use Rattle.las_survey.proofs.Kept.{kept-sound}
use Rattle.las_survey.proofs.Laid.{IsSound}
use Rattle.las_survey.proofs.Beside.{class-beside, class_at-within, fields-beside, laid-beside, kept-beside, kept-class_at, kept-class_set}
use Rattle.las_survey.proofs.survey.Survey.set_class_byte.Goals as goal

pub class_place-requires : goal.class_place-requires
class_place-requires c =
    let known = (kept-sound _ _ _ _ _ c.self.invariant c.self.view_is).known in let same = c.self.invariant.fields.format in let b = c.self.view_is in
    rw (same, b) known

pub set_byte-requires : goal.set_byte-requires
set_byte-requires c =
    let b : List ℕ = c.args.self.now in
    let same : c.self.inside.bytes.items ≡ b = c.self.view_is in
    let sound : IsSound b = kept-sound _ _ _ _ _ c.self.invariant same in
    let here = kept-class_at b _ _ _ _ c.args.i c.from.result c.class_place.result c.self.invariant same c.from.ensures c.class_place.ensures in
    let within : class_at b c.args.i < points_end b = (class_at-within b c.args.i sound c.requires).1 in
    let points : points_end b ≤ length b = sound.points in
    let all : length c.self.inside.bytes.items ≡ length b = ap length same in
    omega (arith, here, within, points, all)

pub returns-clause-bytes : goal.returns-clause-bytes
returns-clause-bytes c = kept-class_set _ _ _ _ _ c.args.i _ _ c.args.byte _ c.self.invariant c.self.view_is c.from.ensures c.class_place.ensures c.set_byte.ensures

pub returns-clause-fields : goal.returns-clause-fields
returns-clause-fields c =
    let b : List ℕ = c.args.self.now in
    let sound : IsSound b = kept-sound _ _ _ _ _ c.self.invariant c.self.view_is in
    let sets = kept-class_set b _ _ _ _ c.args.i _ _ c.args.byte _ c.self.invariant c.self.view_is c.from.ensures c.class_place.ensures c.set_byte.ensures in
    rw sets (fields-beside b _ sound (class-beside b c.args.i c.args.byte sound c.requires))

pub returns-clause-laid : goal.returns-clause-laid
returns-clause-laid c =
    let b : List ℕ = c.args.self.now in
    let sound : IsSound b = kept-sound _ _ _ _ _ c.self.invariant c.self.view_is in
    let sets = kept-class_set b _ _ _ _ c.args.i _ _ c.args.byte _ c.self.invariant c.self.view_is c.from.ensures c.class_place.ensures c.set_byte.ensures in
    let kept : IsKept b c.self.inside.header c.self.inside.vlrs.items c.self.inside.evlrs.items = rw (← c.self.view_is) c.self.invariant in
    rw sets (laid-beside b _ kept.laid (class-beside b c.args.i c.args.byte sound c.requires))

pub invariant_of-self : goal.invariant_of-self
invariant_of-self c =
    let b : List ℕ = c.args.self.now in
    let sound : IsSound b = kept-sound _ _ _ _ _ c.self.invariant c.self.view_is in
    let sets = kept-class_set b _ _ _ _ c.args.i _ _ c.args.byte _ c.self.invariant c.self.view_is c.from.ensures c.class_place.ensures c.set_byte.ensures in
    let kept : IsKept b c.self.inside.header c.self.inside.vlrs.items c.self.inside.evlrs.items = rw (← c.self.view_is) c.self.invariant in
    rw sets (kept-beside b _ _ _ _ kept (class-beside b c.args.i c.args.byte sound c.requires))
