-- Lines worked by hand.
use Rattle.std.proofs.Common.{◌≡◌, ℕ, [], ◌∷◌, Err, refl}
use Rattle.view_base.specs.Text.{words}
use Rattle.view_lines.specs.Command.{command_of}
use Rattle.view_lines.specs.declared.refusal.Refusal.TheVariants.{Line}
use Rattle.sessions.specs.Session.{lines, rest, items_of, commands, whole}

-- two LFs end two lines, of which the second is empty, and what follows is no line that ended
two_lines : lines (97 ∷ 10 ∷ 10 ∷ 98 ∷ []) ≡ (97 ∷ []) ∷ [] ∷ []
unfolding lines
two_lines = refl

and_a_rest : rest (97 ∷ 10 ∷ 10 ∷ 98 ∷ []) ≡ 98 ∷ []
unfolding rest
and_a_rest = refl

-- CR LF is a line without words
a_blank_line : (format : ℕ) → commands format (13 ∷ 10 ∷ []) ≡ []
unfolding commands lines items_of words
a_blank_line format = refl

-- one CR is dropped, and another is a word
two_returns : (format : ℕ) → commands format (13 ∷ 13 ∷ 10 ∷ []) ≡ Err Line ∷ []
unfolding commands lines items_of words command_of
two_returns format = refl

-- a last piece without LF is a line of the whole text alone
a_last_piece : (format : ℕ) → commands format (120 ∷ []) ≡ []
unfolding commands lines items_of words command_of
a_last_piece format = refl

and_as_a_whole : (format : ℕ) → whole format (120 ∷ []) ≡ Err Line ∷ []
unfolding whole commands lines rest items_of words command_of
and_as_a_whole format = refl

-- a text that ends with LF has no such piece
an_ended_text : (format : ℕ) → whole format (120 ∷ 10 ∷ []) ≡ Err Line ∷ []
unfolding whole commands lines rest items_of words command_of
an_ended_text format = refl
