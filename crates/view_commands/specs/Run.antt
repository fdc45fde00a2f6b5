-- What the program does for the words of its command line; and what a `serve` gives: what each of its sessions did, what
-- became of the journal, and why it gives up.
use Rattle.std.specs.Prelude.{◌≡◌, ◌≢◌, ℕ, ◌+◌, ◌*◌, ◌<◌, ◌≤◌, ◌⊎◌, Bool, IsTrue, List, [], ◌∷◌, ◌++◌, length, drop, map, slice_get, Option, Some, None, IsSome, All}
use Rattle.std.specs.List.{flat_map}
use Rattle.edit_ops.specs.EditLine.{canonical}
use Rattle.sessions.specs.declared.serving.TheConstants.{INPUT_LIMIT}
use Rattle.sessions.specs.declared.end.Reason as reason
use Rattle.sessions.specs.declared.end.Reason.TheVariants as why
use Rattle.sessions.specs.declared.end.SessionEnd.{SessionEnd}
use Rattle.sessions.specs.Session.{Served}
use Rattle.version_store.specs.declared.history.Entry.{Entry}
use Rattle.version_store.specs.Histories.{journal, IsLegal, held}
use Rattle.view_base.specs.Fitting.{word_at}
use Rattle.view_ends.specs.Desk.{Said, Untouched}
use Rattle.view_ends.specs.Ends.{Rose, RoseBy}
use Rattle.view_meaning.specs.Classes as meaning
use Rattle.view_meaning.specs.Layout.{IsLaid}
use Rattle.view_commands.specs.declared.places.TheConstants.{SURVEY, JOURNAL, INPUT, OUTPUT}
use Rattle.view_commands.specs.declared.status.Status as status
use Rattle.view_commands.specs.declared.status.Status.TheVariants.{Done, OpenFault, ReadFault, WriteFault, SessionLimit, Memory, Words}
use Rattle.view_commands.specs.declared.told.Ended.{Ended}
use Rattle.view_commands.specs.declared.told.Told.{Told}
use Rattle.view_commands.specs.Texts.{IsReadWhole, NoSurvey, KeepsText, SettlesFile, DrawsView, MakesText}
use Rattle.survey_info.specs.Text.{info_text}
use Rattle.view_words.specs.CommandLine.{all_rows, badword, IsLine}
use Rattle.view_text.specs.ViewWords.{fitting_view}
use Rattle.view_words.specs.declared.row.Row as row
use Rattle.view_words.specs.declared.row.Row.TheVariants.{Draw, Info, Trial, Serve}
use Rattle.view_commands.specs.Trial.{TriesLine}

-- the name of the input of session k, from 0, and the name of its output
abbrev pub input : List (List ℕ) → ℕ → List ℕ
input ws k = word_at ws (INPUT + 2 * k)

abbrev pub output : List (List ℕ) → ℕ → List ℕ
output ws k = word_at ws (OUTPUT + 2 * k)

-- the words have a pair of names for session k
abbrev pub HasPair : List (List ℕ) → ℕ → Type 0
HasPair ws k = OUTPUT + 2 * k < length ws

-- the canonical line and LF of each of these edits, in order
unfoldable pub journal_text : List meaning.Edit → List ℕ
journal_text edits = flat_map (λ edit. canonical edit ++ 10 ∷ []) edits

-- the status of a reason, where its input and its output are the words at these places
abbrev pub status_at : ℕ → ℕ → reason.Reason → status.Status
status_at read written why.Finished = Done
status_at read written why.ReadFault = ReadFault read
status_at read written why.SessionLimit = SessionLimit read
status_at read written why.WriteFault = WriteFault written
status_at read written why.Memory = Memory

-- the status of the first of these reasons that is one of a fault, where the names of the first of them stand at this
-- place and the next one, those of the second at the two places after them, and so on; where there is none, the last
abbrev pub first_fault : ℕ → List reason.Reason → status.Status → status.Status
first_fault at [] last = last
first_fault at (why.Finished ∷ others) last = first_fault (at + 2) others last
first_fault at (fault ∷ others) last = status_at at (at + 1) fault

-- a command told nothing of sessions
abbrev pub IsNothing : Told → Type 0
IsNothing told = (told.history.items ≡ []) × (told.sessions.items ≡ []) × (told.journal ≡ why.Finished)

-- the outputs of the first n sessions are empty, where the desk tells its files, and all other files are as they were
pub record Empties (tells : Bool) (old new : Said) (ws : List (List ℕ)) (n : ℕ) : Type 0 where
  pub empty : IsTrue tells → (k : ℕ) → k < n → new.file (output ws k) ≡ Some []
  pub others : (other : List ℕ) → ((k : ℕ) → k < n → other ≢ output ws k) → new.file other ≡ old.file other

-- why no more than the inputs and outputs of the first n sessions were opened, and that no other count rose
abbrev pub NotOpened : Said → Said → List (List ℕ) → ℕ → status.Status → Type 0
NotOpened old new ws n (OpenFault at) = ((at ≡ INPUT + 2 * n) × HasPair ws n × Rose (old.unopened (word_at ws at)) (new.unopened (word_at ws at)) × Untouched (record old { file = new.file; unopened = new.unopened; taken = new.taken }) new)
    ⊎ (((at ≡ OUTPUT + 2 * n) × HasPair ws n ⊎ (at ≡ JOURNAL) × (length ws ≡ INPUT + 2 * n)) × Rose (old.writes (word_at ws at)) (new.writes (word_at ws at)) × Untouched (record old { file = new.file; writes = new.writes; taken = new.taken }) new)
NotOpened old new ws n Memory = (INPUT + 2 * n ≤ length ws) × Untouched (record old { file = new.file; taken = new.taken }) new
NotOpened old new ws n _ = ⊥

-- what came of keeping a name whose output got these bytes: its file, and its count of refused keepings
abbrev pub KeptSo : Said → Said → List ℕ → Option (List ℕ) → reason.Reason → Type 0
KeptSo old new name got why.Finished = (new.file name ≡ got) × (new.unkept name ≡ old.unkept name)
KeptSo old new name got why.WriteFault = Rose (old.unkept name) (new.unkept name)
KeptSo old new name got why.Memory = Rose (old.unkept name) (new.unkept name)
KeptSo old new name got _ = ⊥

-- a count rose where this is so, and else stayed
pub record RoseWhere (P : Type 0) (before after : ℕ) : Type 0 where
  pub rose : P → Rose before after
  pub calm : (P → ⊥) → after ≡ before

-- session k, from 0, over a survey with these bytes, in a run with this history: how it ended, what came of keeping
-- its output, and what its names count
pub record RunsSession (tells : Bool) (old new : Said) (ws : List (List ℕ)) (b : List ℕ) (h : List Entry) (k : ℕ) (end : SessionEnd) (kept : reason.Reason) : Type 0 where
  -- the input is the file of its name, which is there; it is empty where an earlier session's output has the same name
  pub left : Option (List ℕ)
  pub there : IsTrue tells → IsSome left
  pub script : ((j : ℕ) → j < k → output ws j ≢ input ws k) → left ≡ old.file (input ws k)
  pub emptied : IsTrue tells → (j : ℕ) → j < k → output ws j ≡ input ws k → left ≡ Some []
  -- what the output had got when the session began: nothing, where the desk tells it
  pub start : Option (List ℕ)
  pub empty : IsTrue tells → start ≡ Some []
  -- what it had got when the session ended
  pub got : Option (List ℕ)
  -- which items were processed under which marks, the entries that they made, and their replies
  pub served : Served b [] h (k + 1) left start got end.marks.items end.reason end.taken
  -- the input was opened, and its count of bytes taken rose by what the session took
  pub taken : RoseBy end.taken (old.taken (input ws k)) (new.taken (input ws k))
  pub opened : new.unopened (input ws k) ≡ old.unopened (input ws k)
  -- its count of failed reads rose exactly where reading ended the session
  pub read : RoseWhere (end.reason ≡ why.ReadFault) (old.reads (input ws k)) (new.reads (input ws k))
  -- the output's count of failed writes rose exactly where writing or keeping it failed
  pub wrote : RoseWhere ((end.reason ≡ why.WriteFault) ⊎ (kept ≡ why.WriteFault)) (old.writes (output ws k)) (new.writes (output ws k))
  -- what came of keeping the output; what it got is its file, unless its count of refused keepings rose
  pub keeping : KeptSo old new (output ws k) got kept
  pub output_file : (Rose (old.unkept (output ws k)) (new.unkept (output ws k)) → ⊥) → new.file (output ws k) ≡ got

-- the sessions of a `serve` over a survey with these bytes: their one history, each session, the journal, and the
-- status that follows
pub record RunsSessions (tells : Bool) (old new : Said) (ws : List (List ℕ)) (b : List ℕ) (ended : Ended) : Type 0 where
  -- there is an end for each pair of the words, and what came of keeping each output
  pub pairs : length ws ≡ INPUT + 2 * length ended.told.sessions.items
  pub kept : List reason.Reason
  pub each_kept : length kept ≡ length ended.told.sessions.items
  -- the one history is legal, each entry is by one of the sessions, numbered from 1
  pub legal : IsLegal ended.told.history.items
  pub makers : All (λ (entry : Entry). (1 ≤ entry.who) × (entry.who ≤ length ended.told.sessions.items)) ended.told.history.items
  -- at the end the newest version alone is held, without a pin
  pub newest_held : held ended.told.history.items ≡ (length (journal ended.told.history.items), 0) ∷ []
  -- each session
  pub sessions : (k : ℕ) (end : SessionEnd) (keeping : reason.Reason) → slice_get ended.told.sessions.items k ≡ Some end → slice_get kept k ≡ Some keeping → RunsSession tells old new ws b ended.told.history.items k end keeping
  -- the journal has the line of each published edit, or what came of its writing says why not
  pub journal_file : KeepsText tells old new (word_at ws JOURNAL) (journal_text (journal ended.told.history.items)) ended.told.journal
  -- the status is that of the first session with a fault, else of the first output that was not kept, else of the journal
  pub status : ended.status ≡ first_fault INPUT (map (λ end. end.reason) ended.told.sessions.items) (first_fault INPUT kept (status_at JOURNAL JOURNAL ended.told.journal))
  -- no count of reading changed but of the survey and the inputs; no file and no count of writing but of the outputs and
  -- the journal
  pub reading : (other : List ℕ) → ((k : ℕ) → HasPair ws k → other ≢ input ws k) → other ≢ word_at ws SURVEY → (new.unopened other ≡ old.unopened other) × (new.reads other ≡ old.reads other) × (new.taken other ≡ old.taken other)
  pub writing : (other : List ℕ) → ((k : ℕ) → HasPair ws k → other ≢ output ws k) → other ≢ word_at ws JOURNAL → (new.file other ≡ old.file other) × (new.writes other ≡ old.writes other) × (new.unkept other ≡ old.unkept other)

-- nothing of session k failed outside, and its input is not too long
pub record IsCalm (old new : Said) (ws : List (List ℕ)) (k : ℕ) : Type 0 where
  pub few : (i : List ℕ) × (old.file (input ws k) ≡ Some i) × (length i ≤ INPUT_LIMIT)
  pub opened : Rose (old.unopened (input ws k)) (new.unopened (input ws k)) → ⊥
  pub read : Rose (old.reads (input ws k)) (new.reads (input ws k)) → ⊥
  pub written : Rose (old.writes (output ws k)) (new.writes (output ws k)) → ⊥

-- a `serve` without sessions: it tells nothing and took nothing of an input, since no survey came, or not all was opened
pub record NoSession (tells : Bool) (old new : Said) (ws : List (List ℕ)) (ended : Ended) : Type 0 where
  pub nothing : IsNothing ended.told
  pub untaken : (k : ℕ) → HasPair ws k → new.taken (input ws k) ≤ old.taken (input ws k)
  pub cause : NoSurvey tells old new (word_at ws SURVEY) ended.status ⊎ ((b : List ℕ) × IsLaid b × IsReadWhole tells old new (word_at ws SURVEY) b × (n : ℕ) × Empties tells old new ws n × NotOpened old new ws n ended.status)

-- a `serve` whose words fit: how it went, and how it ends where nothing outside failed
pub record ServesLine (tells : Bool) (old new : Said) (ws : List (List ℕ)) (ended : Ended) : Type 0 where
  -- no session, by a refusal with its cause, or one for each pair
  pub outcome : NoSession tells old new ws ended ⊎ ((b : List ℕ) × IsLaid b × IsReadWhole tells old new (word_at ws SURVEY) b × RunsSessions tells old new ws b ended)
  -- and the status where nothing outside failed
  pub settled : SettlesFile tells old new (word_at ws SURVEY) (λ b. None) (((k : ℕ) → HasPair ws k → IsCalm old new ws k) × (Rose (old.writes (word_at ws JOURNAL)) (new.writes (word_at ws JOURNAL)) → ⊥)) ended.status

-- the command of a row whose words fit; one without sessions tells nothing beside its status. The words of the view of a
-- `draw` stand from place 4 on
abbrev pub RunsLine : row.Row → Bool → Said → Said → List (List ℕ) → Ended → Type 0
RunsLine Draw tells old new ws ended = DrawsView tells old new ws (fitting_view (drop 4 ws)) ended.status × IsNothing ended.told
RunsLine Info tells old new ws ended = MakesText tells old new (word_at ws 1) (word_at ws 2) (λ b. None) info_text ended.status × IsNothing ended.told
RunsLine Trial tells old new ws ended = TriesLine tells old new ws ended.status × IsNothing ended.told
RunsLine Serve tells old new ws ended = ServesLine tells old new ws ended

-- words that are refused are answered by the first refused one, and those that fit a row by its command
pub record Runs (tells : Bool) (old new : Said) (ws : List (List ℕ)) (ended : Ended) : Type 0 where
  -- the first refused word, or the number of words where more are needed, is the status; nothing changed or is told
  pub refused : (at : ℕ) → badword all_rows ws ≡ Some at → (ended.status ≡ Words at) × Untouched old new × IsNothing ended.told
  -- words that fit a row end as its command does
  pub line : (row : row.Row) → IsLine row ws → RunsLine row tells old new ws ended
