use Rattle.std.proofs.Common.{◌≡◌, ◌*◌, take}
use Rattle.std.specs.Arc.{arc_value}
use Rattle.view_meaning.specs.Classes.{changed}
use Rattle.class_pages.specs.Choosing.{chosen}
use Rattle.class_pages.proofs.Pages.{IsBuilt}
use Rattle.class_pages.proofs.classes.Classes.picked.Given as goal

abbrev pub invariant-loop-k : goal.invariant-loop-k
invariant-loop-k g l = record {
  built : IsBuilt arc_value (chosen l.survey (g.T.Chooser.picks l.chooser) l.self) l.k l.pages.items;
  count : l.changed ≡ changed (take (l.k * 4096) l.self) (take (l.k * 4096) (chosen l.survey (g.T.Chooser.picks l.chooser) l.self));
}
