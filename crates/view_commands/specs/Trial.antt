-- What a `trial` writes of the survey that it makes of a number, the lines that it answers over that survey, and their
-- replies.
use Rattle.std.specs.Prelude.{ℕ, pos, List, [], ◌∷◌, ◌++◌, codes, map, Ok, ◌≡◌, ◌%◌, ◌^◌, ◌⊎◌, Bool, length, unwrap_or, unsigned_abs}
use Rattle.std.specs.List.{sum, flat_map}
use Rattle.view_lines.specs.Command.{command_of}
use Rattle.view_lines.specs.declared.command.Command.TheVariants as command
use Rattle.sessions.specs.Session.{Item, replies}
use Rattle.view_meaning.specs.Classes.{Edit}
use Rattle.view_commands.specs.declared.script.TheConstants.{FORMAT, FROM_ABOVE, RECLASSIFY, IN_PERSPECTIVE, COUNT}
use Rattle.survey_info.specs.Text.{line}
use Rattle.survey_make.specs.Made.{made}
use Rattle.view_base.specs.Fitting.{word_at}
use Rattle.view_base.specs.Text.{words, number}
use Rattle.view_ends.specs.Desk.{Said}
use Rattle.view_ends.specs.Ends.{Rose}
use Rattle.view_commands.specs.Texts.{OnlyWrote, Writes}
use Rattle.view_commands.specs.declared.places.TheConstants.{TRIAL_OUT}
use Rattle.view_commands.specs.declared.status.Status as status
use Rattle.view_commands.specs.declared.status.Status.TheVariants.{Done, Memory}

-- the items of the four lines
unfoldable pub script : List Item
script = map (λ line. command_of (words line) FORMAT) (FROM_ABOVE.now ∷ RECLASSIFY.now ∷ IN_PERSPECTIVE.now ∷ COUNT.now ∷ [])

-- the edits that an item publishes
abbrev pub edits_in : Item → List Edit
edits_in (Ok (command.Edit edit)) = edit ∷ []
edits_in _ = []

-- the replies to them over a survey, in a session that alone edits: the edit of the second one makes version 1
unfoldable pub script_replies : List ℕ → List ℕ
script_replies b = replies b (flat_map edits_in script) script (0 ∷ 1 ∷ 1 ∷ 1 ∷ [])

-- the lines of a number of records, of bytes of a survey, of bytes of replies, and of their sum modulo 2^64
unfoldable pub sums : ℕ → ℕ → List ℕ → List ℕ
sums records bytes replies =
    line (codes "records ") records ++ line (codes "bytes ") bytes
    ++ line (codes "replies ") (length replies) ++ line (codes "sum ") (sum replies % 2 ^ 64)

-- the same of the survey of so many records that is made of a number, and of the replies over it
unfoldable pub summary : ℕ → ℕ → List ℕ
summary start records = sums records (length (made start records FORMAT)) (script_replies (made start records FORMAT))

-- a summary was written into the file of a name, or why not, and nothing else changed
pub record WritesSummary (tells : Bool) (old new : Said) (start records : ℕ) (out : List ℕ) (ended : status.Status) : Type 0 where
  pub written : Writes tells old new TRIAL_OUT out (summary start records) ended
  pub only : OnlyWrote old new out
  -- where no writing of it failed, it is done, but for want of memory
  pub settled : (Rose (old.writes out) (new.writes out) → ⊥) → (ended ≡ Done) ⊎ (ended ≡ Memory)

-- the natural number that the word at a place is, where it is one
abbrev pub natural_at : List (List ℕ) → ℕ → ℕ
natural_at ws place = unsigned_abs (unwrap_or (number (word_at ws place)) (pos 0))

-- the same of the start and the number of records in the words of a `trial` that fit
abbrev pub TriesLine : Bool → Said → Said → List (List ℕ) → status.Status → Type 0
TriesLine tells old new ws ended = WritesSummary tells old new (natural_at ws 1) (natural_at ws 2) (word_at ws TRIAL_OUT) ended
