-- Pages of classes that change one by one.
use Rattle.std.specs.Prelude.{ℕ, List}
use Rattle.std.specs.Arc.{arc_value}
use Rattle.class_pages.specs.declared.draft.DraftPage.{DraftPage}
use Rattle.class_pages.specs.declared.draft.DraftPage.TheVariants.{Shared, Own}

-- the classes on a page of a draft
abbrev pub classes_on : DraftPage → List ℕ
classes_on (Shared page) = arc_value page
classes_on (Own page) = page
