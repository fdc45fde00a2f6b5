-- The text of a journal, line by line.
use Rattle.std.proofs.Common.{◌≡◌, ℕ, List, [], ◌∷◌, ◌++◌, sym, ap, ◌∙◌, append_assoc, append-nil}
use Rattle.edit_ops.specs.EditLine.{canonical}
use Rattle.view_meaning.specs.Classes as meaning
use Rattle.view_commands.specs.Run.{journal_text}

journal_text-one : (edit : meaning.Edit) → journal_text (edit ∷ []) ≡ canonical edit ++ 10 ∷ []
unfolding journal_text
journal_text-one edit = append-nil (canonical edit ++ 10 ∷ [])

-- one more line
pub line_appended : (text mid : List ℕ) (edit : meaning.Edit) → mid ≡ text ++ canonical edit → mid ++ 10 ∷ [] ≡ text ++ journal_text (edit ∷ [])
line_appended text mid edit is =
    ap (λ (l : List ℕ). l ++ 10 ∷ []) is ∙ append_assoc text (canonical edit) (10 ∷ []) ∙ ap (λ (l : List ℕ). text ++ l) (sym (journal_text-one edit))
