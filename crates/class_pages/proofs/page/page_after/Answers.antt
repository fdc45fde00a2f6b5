use Rattle.class_pages.proofs.Versions.{changed_same}
use Rattle.class_pages.proofs.page.page_after.Goals as goal

pub returns-in_default-clause-count : goal.returns-in_default-clause-count
returns-in_default-clause-count g c = changed_same _ _ c.in_ok-try_clone.ensures
