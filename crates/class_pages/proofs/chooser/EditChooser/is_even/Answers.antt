use Rattle.std.proofs.Common.{sym, ap, ◌∙◌}
use Rattle.view_meaning.specs.Classes.{Edit}
use Rattle.class_pages.specs.Boxes.{covers}
use Rattle.class_pages.proofs.ByEdit.{edit_even}
use Rattle.class_pages.proofs.chooser.EditChooser.is_even.Goals as goal

pub returns : goal.returns
returns c = λ whole. edit_even c.args.self.now c.args.area (ap (λ (e : Edit). covers e.area c.args.area) (sym c.self.view_is) ∙ sym c.contains.ensures ∙ whole)
