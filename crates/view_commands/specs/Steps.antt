-- What the steps of the commands hand to one another.
use Rattle.std.specs.Prelude.{◌≡◌, ◌≢◌, ℕ, ◌+◌, ◌-◌, ◌*◌, ◌<◌, ◌≤◌, ◌⊎◌, true, false, Bool, IsTrue, List, [], ◌∷◌, ◌++◌, length, map, All, Contains, Option, Some, None, IsSome, Result, Ok}
use Rattle.std.specs.Arc.{arc_value}
use Rattle.std.specs.List.{AllZip}
use mathlib.Core.List.{IsPrefix}
use Rattle.atomic_table.specs.Seated.{TableId}
use Rattle.sessions.specs.Session.{Item, reply, Served}
use Rattle.sessions.specs.Listening.{Read, Wrote, reason_of}
use Rattle.sessions.specs.Worlds.{HasGivenBack, IsScene}
use Rattle.sessions.specs.declared.drawing.Scene.{Scene}
use Rattle.sessions.specs.declared.end.Reason as reason
use Rattle.sessions.specs.declared.end.SessionEnd.{SessionEnd}
use Rattle.turn_gate.specs.Meaning.{Passed, made_by}
use Rattle.version_store.specs.Histories.{journal, IsLegal}
use Rattle.version_store.specs.Sharing.{IsOwn, maker}
use Rattle.version_store.specs.Store.{Stored}
use Rattle.version_store.specs.declared.history.Entry.{Entry}
use Rattle.view_ends.specs.Calls.{Shuts, Keeps}
use Rattle.view_ends.specs.Desk.{Said, IsKnown, Untouched}
use Rattle.view_ends.specs.Ends.{AllStay, OthersStay, NoneForgotten, Rose}
use Rattle.view_ends.specs.Pieces.{SourceSaid, SinkSaid}
use Rattle.view_ends.specs.declared.fault.EndFault.{EndFault}
use Rattle.view_lines.specs.declared.command.Command.TheVariants as command
use Rattle.view_meaning.specs.Survey.{format_of}
use Rattle.view_words.specs.CommandLine.{badword, IsLine}
use Rattle.view_words.specs.declared.row.Row as row
use Rattle.view_base.specs.Fitting.{word_at}
use Rattle.view_commands.specs.Trial.{edits_in}
use Rattle.view_commands.specs.declared.places.TheConstants.{JOURNAL, INPUT}
use Rattle.view_commands.specs.declared.script.TheConstants.{FORMAT}
use Rattle.view_commands.specs.Run.{RunsLine, input, output, HasPair, Empties, IsNothing, NotOpened, first_fault, journal_text, status_at}
use Rattle.view_commands.specs.Texts.{KeepsText, OnlyWrote}
use Rattle.view_commands.specs.declared.finishing.Outcomes.{Outcomes}
use Rattle.view_commands.specs.declared.status.Status as status
use Rattle.view_commands.specs.declared.status.Status.TheVariants.{Words, OpenFault, Memory}
use Rattle.view_commands.specs.declared.told.Ended.{Ended}

-- an output that got nothing
pub record IsUnwritten (tells : Bool) (got : Option (List ℕ)) (faults : ℕ) : Type 0 where
  pub empty : IsTrue tells → got ≡ Some []
  pub faultless : faults ≡ 0

-- words that begin with the command of a row are answered by the first that is refused, or else as a line of the row
pub record RunsRow (row : row.Row) (tells : Bool) (old new : Said) (ws : List (List ℕ)) (ended : Ended) : Type 0 where
  pub refused : (at : ℕ) → badword (row ∷ []) ws ≡ Some at → (ended.status ≡ Words at) × Untouched old new × IsNothing ended.told
  pub line : IsLine row ws → RunsLine row tells old new ws ended

-- the root pass of a gate, once so many passes are split off
abbrev pub root_of : TableId → ℕ → Passed Entry
root_of gate n = record { gate = gate; who = 0; seen = []; mine = []; turn = None; root = true; out = n; given = n; kept = [] }

-- what belongs to a session, as it is at a moment: its input, its output, its pass, and how it ended
pub record Seated : Type 0 where
  pub input : SourceSaid
  pub output : SinkSaid
  pub pass : Passed Entry
  pub end : SessionEnd

-- what holds of each item of a list and its place, where the first stands at this place
abbrev pub EachFrom : {X : Type 0} → (ℕ → X → Type 0) → ℕ → List X → Type 0
EachFrom P k [] = Unit {0}
EachFrom P k (x ∷ xs) = P k x × EachFrom P (k + 1) xs

-- session k has not begun: nothing was taken of its input, its output got nothing, and its pass has seen nothing
pub record IsFresh (tells : Bool) (gate : TableId) (k : ℕ) (seat : Seated) : Type 0 where
  pub there : IsTrue tells → IsSome seat.input.left
  pub untaken : seat.input.taken ≡ 0
  pub faultless : seat.input.faults ≡ 0
  pub unwritten : IsUnwritten tells seat.output.got seat.output.faults
  pub pass : seat.pass ≡ record { gate = gate; who = k + 1; seen = []; mine = []; turn = None; root = false; out = 0; given = 0; kept = [] }
  pub own : IsOwn seat.pass

-- a name was opened for reading, or why not
pub record OpensRead (old new : Said) (name : List ℕ) : Type 0 where
  pub known : IsKnown new name
  pub rest : Untouched old new

abbrev pub RefusesRead : Said → Said → List ℕ → ℕ → status.Status → Type 0
RefusesRead old new name at (OpenFault place) = (place ≡ at) × Rose (old.unopened name) (new.unopened name) × OthersStay old.unopened new.unopened name × Untouched (record old { unopened = new.unopened }) new
RefusesRead old new name at Memory = Untouched old new
RefusesRead old new name at _ = ⊥

-- a name was opened for writing, or why not
pub record OpensWritten (tells : Bool) (old new : Said) (name : List ℕ) : Type 0 where
  pub empty : IsTrue tells → new.file name ≡ Some []
  pub files : OthersStay old.file new.file name
  pub known : IsKnown new name
  pub rest : Untouched (record old { file = new.file }) new

abbrev pub RefusesWritten : Said → Said → List ℕ → ℕ → status.Status → Type 0
RefusesWritten old new name at (OpenFault place) = (place ≡ at) × Rose (old.writes name) (new.writes name) × Untouched (record old { writes = new.writes }) new
RefusesWritten old new name at Memory = Untouched old new
RefusesWritten old new name at _ = ⊥

-- the names of session k were opened just now
pub record OpensSession (tells : Bool) (old new : Said) (ws : List (List ℕ)) (gate : TableId) (k : ℕ) (seat : Seated) : Type 0 where
  pub fresh : IsFresh tells gate k seat
  pub left : seat.input.left ≡ old.file (input ws k)
  pub empty : IsTrue tells → new.file (output ws k) ≡ Some []
  pub files : OthersStay old.file new.file (output ws k)
  pub rest : Untouched (record old { file = new.file }) new
  pub input_known : IsKnown new (input ws k)
  pub output_known : IsKnown new (output ws k)

-- the names of session k were opened for it, since this desk was so
pub record IsOpened (tells : Bool) (old new : Said) (ws : List (List ℕ)) (gate : TableId) (k : ℕ) (seat : Seated) : Type 0 where
  pub fresh : IsFresh tells gate k seat
  pub script : ((j : ℕ) → j < k → output ws j ≢ input ws k) → seat.input.left ≡ old.file (input ws k)
  pub emptied : IsTrue tells → (j : ℕ) → j < k → output ws j ≡ input ws k → seat.input.left ≡ Some []
  pub input_known : IsKnown new (input ws k)
  pub output_known : IsKnown new (output ws k)

-- the names of the first sessions were opened for them, and nothing changed but that their outputs are empty
pub record AreOpened (tells : Bool) (old new : Said) (ws : List (List ℕ)) (gate : TableId) (seats : List Seated) : Type 0 where
  pub files : Empties tells old new ws (length seats)
  pub rest : Untouched (record old { file = new.file }) new
  pub each : EachFrom (IsOpened tells old new ws gate) 0 seats

-- of what reading counts nothing changed but of inputs
pub record OnlyInputs (old new : Said) (ws : List (List ℕ)) : Type 0 where
  pub unopened : (other : List ℕ) → ((k : ℕ) → HasPair ws k → other ≢ input ws k) → new.unopened other ≡ old.unopened other
  pub reads : (other : List ℕ) → ((k : ℕ) → HasPair ws k → other ≢ input ws k) → new.reads other ≡ old.reads other
  pub taken : (other : List ℕ) → ((k : ℕ) → HasPair ws k → other ≢ input ws k) → new.taken other ≡ old.taken other

-- inputs were shut of which nothing was taken
pub record ShutsUnread (old new : Said) (ws : List (List ℕ)) : Type 0 where
  pub untaken : (other : List ℕ) → new.taken other ≤ old.taken other
  pub only : OnlyInputs old new ws
  pub rest : Untouched (record old { taken = new.taken }) new

-- the input of session k was opened, and nothing was taken of it
pub record IsUnread (said : Said) (ws : List (List ℕ)) (k : ℕ) (seat : Seated) : Type 0 where
  pub untaken : seat.input.taken ≡ 0
  pub faultless : seat.input.faults ≡ 0
  pub known : IsKnown said (input ws k)

-- the next name was not opened, once those of the first n sessions were, and no file changed
pub record RefusesNext (old new : Said) (ws : List (List ℕ)) (n : ℕ) (ended : status.Status) : Type 0 where
  pub files : AllStay old.file new.file
  pub cause : NotOpened old new ws n ended
  pub untaken : (other : List ℕ) → new.taken other ≤ old.taken other
  pub only : OnlyInputs old new ws
  pub known : NoneForgotten (IsKnown old) (IsKnown new)

-- not all names were opened
pub record RefusesOpening (tells : Bool) (old new : Said) (ws : List (List ℕ)) (ended : status.Status) : Type 0 where
  pub opened : ℕ
  pub files : Empties tells old new ws opened
  pub cause : NotOpened old new ws opened ended
  pub untaken : (other : List ℕ) → new.taken other ≤ old.taken other
  pub only : OnlyInputs old new ws

-- all names were opened, those of the sessions for them
pub record OpensAll (tells : Bool) (old new : Said) (ws : List (List ℕ)) (gate : TableId) (seats : List Seated) : Type 0 where
  pub each : EachFrom (IsOpened tells old new ws gate) 0 seats
  pub files : (other : List ℕ) → ((k : ℕ) → HasPair ws k → other ≢ output ws k) → other ≢ word_at ws JOURNAL → new.file other ≡ old.file other
  pub rest : Untouched (record old { file = new.file }) new
  pub journal_known : IsKnown new (word_at ws JOURNAL)

-- a session may be served over the store of this gate
pub record CanServe (gate : TableId) (seat : Seated) : Type 0 where
  pub gate_is : seat.pass.gate ≡ gate
  pub outside : seat.pass.turn ≡ None
  pub own : IsOwn seat.pass
  pub given_back : HasGivenBack seat.pass.seen seat.pass.who

-- a session was served over a survey with these bytes
pub record IsServed (b : List ℕ) (old new : Seated) : Type 0 where
  pub served : Served b old.pass.seen new.pass.seen old.pass.who old.input.left old.output.got new.output.got new.end.marks.items new.end.reason new.end.taken
  pub own : IsOwn new.pass
  pub pass : new.pass ≡ record old.pass { seen = new.pass.seen; mine = new.pass.mine }
  pub given_back : HasGivenBack new.pass.seen old.pass.who
  pub taken : new.input.taken ≡ old.input.taken + new.end.taken
  pub reads : Read old.input.faults new.input.faults new.end.reason
  pub writes : Wrote old.output.faults new.output.faults new.end.reason

-- the input of a session was shut, and then its output kept, with this outcome
pub record Finishes (old new : Said) (input output : List ℕ) (seat : Seated) (kept : reason.Reason) : Type 0 where
  pub shut : Said
  pub shuts : Shuts old shut input seat.input.taken seat.input.faults
  pub outcome : Result (Unit {0}) EndFault
  pub keeps : Keeps shut new output seat.output.got seat.output.faults outcome
  pub kept_is : kept ≡ reason_of outcome

-- the same of each of these sessions in order, of which the first is session k
abbrev pub FinishesAll : List (List ℕ) → ℕ → List Seated → List reason.Reason → Said → Said → Type 0
FinishesAll ws k [] [] old new = new ≡ old
FinishesAll ws k (seat ∷ seats) (kept ∷ others) old new = (mid : Said) × Finishes old mid (input ws k) (output ws k) seat kept × FinishesAll ws (k + 1) seats others mid new
FinishesAll ws k _ _ old new = ⊥

-- a session may be finished: its names are known, and its pass is of this gate and outside any turn
pub record CanFinish (said : Said) (ws : List (List ℕ)) (gate : TableId) (k : ℕ) (seat : Seated) : Type 0 where
  pub input_known : IsKnown said (input ws k)
  pub output_known : IsKnown said (output ws k)
  pub gate_is : seat.pass.gate ≡ gate
  pub split : seat.pass.root ≡ false
  pub outside : seat.pass.turn ≡ None

-- a pass was joined to the root
pub record Joins (old new pass : Passed Entry) : Type 0 where
  pub root : new ≡ record old { seen = new.seen; out = old.out - 1; kept = old.kept ++ (pass.who, pass.mine) ∷ [] }
  pub before : IsPrefix old.seen new.seen
  pub joined : IsPrefix pass.seen new.seen

-- the same of the passes of all these sessions in order
abbrev pub JoinsAll : List Seated → Passed Entry → Passed Entry → Type 0
JoinsAll [] old new = new ≡ old
JoinsAll (seat ∷ seats) old new = (mid : Passed Entry) × Joins old mid seat.pass × JoinsAll seats mid new

-- nothing is noted of sessions yet, and there is room for what is noted of so many
pub record IsRoomFor (count : ℕ) (outcomes : Outcomes) : Type 0 where
  pub no_ends : outcomes.ends.items ≡ []
  pub no_kept : outcomes.kept.items ≡ []
  pub ends_room : count ≤ outcomes.ends.spare
  pub kept_room : count ≤ outcomes.kept.spare

-- the sessions that were served with this root of their passes are finished, and the journal is written
pub record FinishesRun (tells : Bool) (old new : Said) (ws : List (List ℕ)) (seats : List Seated) (root : Passed Entry) (ended : Ended) : Type 0 where
  pub finished : Said
  pub kept : List reason.Reason
  pub last : Passed Entry
  pub finishes : FinishesAll ws 0 seats kept old finished
  pub joins : JoinsAll seats root last
  pub own : IsOwn last
  pub history : ended.told.history.items ≡ last.seen
  pub makers : All (λ (entry : Entry). (entry.who ≡ 0) ⊎ Contains (map (λ (joined : ℕ × List Entry). joined.0) last.kept) entry.who) last.seen
  pub made : All (λ (joined : ℕ × List Entry). made_by maker joined.0 last.seen ≡ joined.1) last.kept
  pub ends : ended.told.sessions.items ≡ map (λ (seat : Seated). seat.end) seats
  pub journal : KeepsText tells finished new (word_at ws JOURNAL) (journal_text (journal ended.told.history.items)) ended.told.journal
  pub only : OnlyWrote finished new (word_at ws JOURNAL)
  pub status : ended.status ≡ first_fault INPUT (map (λ (end : SessionEnd). end.reason) ended.told.sessions.items) (first_fault INPUT kept (status_at JOURNAL JOURNAL ended.told.journal))

-- all names were opened, the sessions were served over a survey with these bytes, and the run was finished
pub record RunsAll (tells : Bool) (old new : Said) (ws : List (List ℕ)) (b : List ℕ) (ended : Ended) : Type 0 where
  pub gate : TableId
  pub begun : List Seated
  pub served : List Seated
  pub began : Said
  pub opens : OpensAll tells old began ws gate begun
  pub serves : AllZip (IsServed b) begun served
  pub pairs : length ws ≡ 4 + 2 * length begun
  pub finishes : FinishesRun tells began new ws served (root_of gate (length begun)) ended

-- not all names were opened, or the sessions ran
abbrev pub ServesIn : Bool → Said → Said → List (List ℕ) → List ℕ → Ended → Type 0
ServesIn tells old new ws b ended = (IsNothing ended.told × RefusesOpening tells old new ws ended.status) ⊎ RunsAll tells old new ws b ended

-- a line that a trial may answer: a view, an edit or a count
abbrev pub CanAnswer : Item → Type 0
CanAnswer (Ok (command.View view)) = Unit {0}
CanAnswer (Ok (command.Edit edit)) = Unit {0}
CanAnswer (Ok (command.Count filter)) = Unit {0}
CanAnswer _ = ⊥

-- a line may be answered over this store, of the survey of this scene
pub record IsStage (scene : Scene) (store : Stored) : Type 0 where
  pub scene_is : IsScene scene
  pub bytes : store.bytes ≡ arc_value scene.survey
  pub format : format_of store.bytes ≡ FORMAT
  pub legal : IsLegal store.history

-- a line was answered over a store: its edit was published, if it is one, and its reply appended
pub record Answers (old new : Stored) (item : Item) (before after : List ℕ) : Type 0 where
  pub bytes : new.bytes ≡ old.bytes
  pub edits : journal new.history ≡ journal old.history ++ edits_in item
  pub legal : IsLegal new.history
  pub replied : after ≡ before ++ reply new.bytes (journal new.history) item (length (journal new.history))
