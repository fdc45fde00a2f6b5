use Rattle.std.proofs.Common.{ℕ, List, ap, sym, ◌∙◌}
use Rattle.view_meaning.specs.Classes as meaning
use Rattle.version_store.specs.Store.{newest}
use Rattle.version_store.proofs.SharedSteps.{newest-publish}
use Rattle.version_store.proofs.ahead.Ahead.publish.Goals as goal

pub returns-clause-count : goal.returns-clause-count
returns-clause-count c =
    let old = c.args.store.now in
    let still = sym c.current.ensures ∙ c.if-current-self.false in
    (c.requires.ahead still).count
    ∙ ap (λ (l : List ℕ). meaning.changed (newest old) l) (sym (newest-publish old c.publish_made.new.self c.args.who c.args.edit.now c.in_ok-version.ensures.published))
