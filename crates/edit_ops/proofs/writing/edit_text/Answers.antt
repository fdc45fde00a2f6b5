use Rattle.std.proofs.Common.{◌≡◌, ◌++◌, ◌∙◌, ap}
use Rattle.std.specs.Prelude.{codes}
use Rattle.edit_ops.proofs.CanonicalLine.{canonical_appended}
use Rattle.edit_ops.proofs.ReadsBack.{IsEdit, edit_of-canonical}
use Rattle.edit_ops.proofs.writing.edit_text.Goals as goal

pub returns-clause-appended : goal.returns-clause-appended
returns-clause-appended c =
    let start : c.append_within.new.self.items ≡ c.args.out.now.items ++ codes "edit" = c.append_within.ensures.appended ∙ ap (λ text. text ++ codes "edit") c.reserve.ensures.same in
    canonical_appended c.args.edit.now c.args.out.now.items c.append_within.new.self.items c.append_corner.new.out.items c.append_corner-2.new.out.items c.append_within-2.new.self.items c.append_classes.new.out.items c.append_within-3.new.self.items c.append_class.new.out.items start (rw (← c.edit.view_is) c.append_corner.ensures.appended) (rw (← c.edit.view_is) c.append_corner-2.ensures.appended) c.append_within-2.ensures.appended (rw (← c.edit.view_is) c.append_classes.ensures.appended) c.append_within-3.ensures.appended (rw (← c.edit.view_is) c.append_class.ensures.appended)

pub returns-clause-reads_back : goal.returns-clause-reads_back
returns-clause-reads_back c format within =
    let is : IsEdit c.args.edit.now =
    rw (← c.edit.view_is) (record { min = c.append_corner.ensures.corner; max = c.append_corner-2.ensures.corner; from = c.edit.invariant; to = c.append_class.ensures.class }) in
    edit_of-canonical c.args.edit.now format is within
