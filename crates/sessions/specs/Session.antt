-- What one session does: the lines of its input and the commands that they are, what it answers, which items it may have
-- processed, which entries of the history are its own, under which marks it answered, and what its output got. A text is
-- the list of its bytes.
use Rattle.std.specs.Prelude.{ℕ, ◌-◌, ◌==◌, ◌&&◌, nat_lt, nat_le, if◌then◌else◌, Bool, List, [], ◌∷◌, ◌++◌, length, take, slice_index, slice_index_or, Result, Err, zip, codes, decimal, Ok, ◌≡◌, ◌+◌, ◌<◌, ◌≤◌, ◌⊎◌, ◌↔◌, min, drop, slice_get, Option, Some, IfSome}
use Rattle.std.specs.List.{slice_split, flat_map}
use Rattle.view_base.specs.Text.{words}
use Rattle.view_lines.specs.Command.{command_of, refusal_code}
use Rattle.view_lines.specs.declared.command.Command.{Command}
use Rattle.view_lines.specs.declared.refusal.Refusal.{Refusal}
use Rattle.view_lines.specs.declared.refusal.Refusal.TheVariants.{Line}
use Rattle.view_meaning.specs.Classes as meaning
use Rattle.view_meaning.specs.Classes.{changed, classes, passing, saved}
use Rattle.view_meaning.specs.Picture.{picture}
use Rattle.view_lines.specs.declared.command.Command.TheVariants.{View, Edit, Count, Save}
use Rattle.view_meaning.specs.Survey.{format_of}
use Rattle.view_lines.specs.declared.command.Command.TheVariants as command
use Rattle.version_store.specs.declared.history.What.TheVariants.{Publish, Pin, Unpin}
use Rattle.version_store.specs.declared.history.Entry.{Entry}
use Rattle.version_store.specs.Histories.{journal, numbered, entries_by}
use Rattle.sessions.specs.declared.end.Reason as reason
use Rattle.sessions.specs.declared.end.Reason.TheVariants.{Finished, ReadFault, SessionLimit, WriteFault, Memory}
use Rattle.sessions.specs.declared.pending.TheConstants.{LINE}
use Rattle.sessions.specs.declared.serving.TheConstants.{INPUT_LIMIT}

-- what a line is processed as: its command, or why it asks for nothing
abbrev pub Item : Type 0
Item = Result Command Refusal

-- whether a byte ends a line
abbrev pub is_lf : ℕ → Bool
is_lf c = c == 10

-- the pieces of a text that end with LF, without the LF
unfoldable pub lines : List ℕ → List (List ℕ)
lines t = take (length (slice_split is_lf t) - 1) (slice_split is_lf t)

-- what follows the last LF of a text
unfoldable pub rest : List ℕ → List ℕ
rest t = slice_index_or (slice_split is_lf t) (length (slice_split is_lf t) - 1) []

-- a line without one CR at its end
abbrev pub without_cr : List ℕ → List ℕ
without_cr line = if nat_lt 0 (length line) && slice_index line (length line - 1) == 13 then take (length line - 1) line else line

-- what a line of few enough bytes is processed as: nothing where it has no words
abbrev pub item_of_words : ℕ → List ℕ → List Item
item_of_words format line = if length (words line) == 0 then [] else command_of (words line) format ∷ []

-- what a line is processed as for a point format: one item, or nothing
unfoldable pub items_of : ℕ → List ℕ → List Item
items_of format line = if nat_le (length line) LINE then item_of_words format (without_cr line) else Err Line ∷ []

-- the items of the lines of a text that end with LF
unfoldable pub commands : ℕ → List ℕ → List Item
commands format t = flat_map (items_of format) (lines t)

-- the items of a whole text, of what follows the last LF too
unfoldable pub whole : ℕ → List ℕ → List Item
whole format t = commands format t ++ (if length (rest t) == 0 then [] else items_of format (rest t))

-- the classes of version v, of a survey whose published edits are these
unfoldable pub version : List ℕ → List meaning.Edit → ℕ → List ℕ
version b edits v = classes b (take v edits)

-- the head line of a reply: a word, the version that answers, and a number
unfoldable pub head : List ℕ → ℕ → ℕ → List ℕ
head word v n = word ++ codes " " ++ decimal v ++ codes " " ++ decimal n ++ codes "\n"

-- a head line that tells the length of the bytes after it
abbrev pub with_length : List ℕ → ℕ → List ℕ → List ℕ
with_length word v bytes = head word v (length bytes) ++ bytes

-- the reply to an item under version v: to a view the picture, to an edit how many classes it changed, to a
-- count how many records pass, to a save the whole file, each of version v, and to a refused line the code
unfoldable pub reply : List ℕ → List meaning.Edit → Item → ℕ → List ℕ
reply b edits (Ok (View view)) v = with_length (codes "PICTURE") v (picture b (version b edits v) view)
reply b edits (Ok (Edit edit)) v = head (codes "EDITED") v (changed (version b edits (v - 1)) (version b edits v))
reply b edits (Ok (Count filter)) v = head (codes "COUNT") v (passing b (version b edits v) filter)
reply b edits (Ok Save) v = with_length (codes "FILE") v (saved b (version b edits v))
reply b edits (Err refusal) v = codes "REFUSED " ++ decimal (refusal_code refusal) ++ codes "\n"

-- the replies to items in order, each under its mark
unfoldable pub replies : List ℕ → List meaning.Edit → List Item → List ℕ → List ℕ
replies b edits items marks = flat_map (λ (at : Item × ℕ). reply b edits at.0 at.1) (zip items marks)

-- which items a session may have processed of its input, of which it heard this text, by why it ended: all of them, those
-- of the lines that ended, or else the first of those, or of all where the text is the whole input
abbrev pub MayProcess : ℕ → List ℕ → List ℕ → List Item → reason.Reason → Type 0
MayProcess format input text items Finished = (text ≡ input) × (items ≡ whole format input)
MayProcess format input text items ReadFault = items ≡ commands format text
MayProcess format input text items SessionLimit = items ≡ commands format text
MayProcess format input text items _ =
    (k : ℕ) × ((items ≡ take k (commands format text)) ⊎ ((text ≡ input) × (items ≡ take k (whole format input))))

-- the items that a session processed of its input, of which so many bytes were taken
pub record Processed (format : ℕ) (input : List ℕ) (taken : ℕ) (reason : reason.Reason) (items : List Item) : Type 0 where
  pub came : taken ≤ length input
  pub limit : (reason ≡ SessionLimit) ↔ (taken ≡ INPUT_LIMIT + 1)
  pub few : taken ≤ INPUT_LIMIT + 1
  pub items_are : MayProcess format input (take (min taken INPUT_LIMIT) input) items reason

-- the entries that items make, each with the newest version once it was made, and the marks of the items: an
-- edit publishes, and its mark is the version that it makes; a view, a count or a save pins the version that
-- is its mark and gives it back; a refused item makes no entry, and its mark is the one before it
unfoldable pub Makes : ℕ → List Item → List ℕ → List (Entry × ℕ) → Type 0
Makes before [] [] [] = Unit {0}
Makes before (Err _ ∷ items) (mark ∷ marks) entries = (mark ≡ before) × Makes mark items marks entries
Makes before (Ok (command.Edit edit) ∷ items) (mark ∷ marks) (at ∷ entries) = (at.0.what ≡ Publish edit) × (mark ≡ at.1) × Makes mark items marks entries
Makes before (Ok _ ∷ items) (mark ∷ marks) (at ∷ after ∷ entries) = (at.0.what ≡ Pin) × (mark ≡ at.1) × (after.0.what ≡ Unpin mark) × Makes mark items marks entries
Makes before _ _ _ = ⊥

-- an output got a front of the replies to these items that has at least those to all but the last
abbrev pub GotMost : List ℕ → List meaning.Edit → List Item → List ℕ → Option (List ℕ) → Option (List ℕ) → Type 0
GotMost b edits items marks old new = IfSome old (λ all. (k : ℕ) × (length (replies b edits (take (length items - 1) items) (take (length marks - 1) marks)) ≤ k)
    × (new ≡ Some (all ++ take k (replies b edits items marks))))

-- what an output got, by why the session ended: all replies, but where writing failed or memory was wanting
abbrev pub Got : List ℕ → List meaning.Edit → List Item → List ℕ → Option (List ℕ) → Option (List ℕ) → reason.Reason → Type 0
Got b edits items marks old new WriteFault = GotMost b edits items marks old new
Got b edits items marks old new Memory = GotMost b edits items marks old new
Got b edits items marks old new _ = IfSome old (λ all. new ≡ Some (all ++ replies b edits items marks))

-- one session over a survey, while the history grew from h0 to h: of its input, which has these bytes where
-- they are told, it processed these items, and no others as many; its own new entries are those that they
-- make under its marks; no mark is below an earlier one, and none of a command is older than what was there at
-- the start; and its output got the replies
pub record Served (b : List ℕ) (h0 h : List Entry) (who : ℕ) (left old new : Option (List ℕ)) (marks : List ℕ) (reason : reason.Reason) (taken : ℕ) : Type 0 where
  -- the bytes of the input, which are the source's where it tells them
  pub input : List ℕ
  -- the items that were processed
  pub items : List Item
  pub input_is : IfSome left (λ all. all ≡ input)
  -- they are ones that the input, the bytes taken and the reason of the end allow, and no others as many are
  pub processed : Processed (format_of b) input taken reason items
  pub one : (text : List ℕ) (these those : List Item) → length these ≡ length those → Processed (format_of b) text taken reason these → Processed (format_of b) text taken reason those → these ≡ those
  -- the history grew at its end
  pub begins : take (length h0) h ≡ h0
  -- the new entries by this caller are those that the items make, under these marks
  pub makes : Makes 0 items marks (entries_by who (drop (length h0) (numbered 0 h)))
  -- marks never fall
  pub rising : (j k : ℕ) → j ≤ k → k < length marks → slice_index marks j ≤ slice_index marks k
  -- a command's mark is no older than the start
  pub newer : (k : ℕ) (command : Command) → slice_get items k ≡ Some (Ok command) → length (journal h0) ≤ slice_index marks k
  -- the output got the replies
  pub got : Got b (journal h) items marks old new reason
