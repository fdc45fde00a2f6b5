use Rattle.std.proofs.Common.{◌≡◌, [], ◌∷◌, ◌++◌, sym, ap, ◌∙◌}
use Rattle.view_meaning.specs.Classes as meaning
use Rattle.version_store.specs.Histories.{journal}
use Rattle.version_store.specs.Store.{Stored, newest}
use Rattle.version_store.proofs.HistoryLaws.{journal-publish}
use Rattle.version_store.proofs.store.Store.publish.Goals as goal

pub returns-clause-count : goal.returns-clause-count
returns-clause-count c =
    let before : c.deref.result.now ≡ newest c.args.self.now = c.deref.ensures ∙ c.newest.ensures.classes in
    let bytes : c.self.inside.survey ≡ c.args.self.now.bytes = ap (λ (s : Stored). s.bytes) c.self.view_is in
    let after : c.in_ok-classes.classes ≡ meaning.classes c.args.self.now.bytes (journal c.args.self.now.history ++ c.args.edit.now ∷ []) =
    rw bytes at (c.in_ok-classes.ensures.edits (journal c.args.self.now.history) (before ∙ ap (λ b. meaning.classes b (journal c.args.self.now.history)) (sym bytes))) in
    let made : c.in_ok-classes.classes ≡ newest c.publish_made.new.self =
    after ∙ ap (meaning.classes c.args.self.now.bytes) (sym (journal-publish c.args.self.now.history c.args.who c.args.edit.now)) ∙ ap newest (sym c.in_ok-version.ensures.published) in
    c.in_ok-classes.ensures.count ∙ ap (λ cs. meaning.changed cs c.in_ok-classes.classes) before ∙ ap (meaning.changed (newest c.args.self.now)) made
