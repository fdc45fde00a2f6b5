use Rattle.std.proofs.Common.{sym, ap, ◌∙◌}
use Rattle.view_meaning.specs.Classes.{Edit}
use Rattle.class_pages.specs.Boxes.{meets}
use Rattle.class_pages.proofs.ByEdit.{edit_leaves}
use Rattle.class_pages.proofs.chooser.EditChooser.may_change.Goals as goal

pub returns : goal.returns
returns c = λ far. edit_leaves c.args.self.now c.args.area (ap (λ (e : Edit). meets c.args.area e.area) (sym c.self.view_is) ∙ sym c.meet.ensures ∙ far)
