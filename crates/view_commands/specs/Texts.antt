-- What a command makes of a survey that it reads from a desk, and writes there as a text.
use Rattle.std.specs.Prelude.{◌≡◌, ℕ, ◌+◌, ◌-◌, ◌<◌, ◌≤◌, ◌⊎◌, Bool, IsTrue, List, [], length, take, Option, Some, None, IsSome, IfSome, nat_le, unwrap_or, Result, Ok, Err, if◌then◌else◌}
use Rattle.std.specs.Option.{option_map_or}
use Rattle.las_survey.specs.declared.loading.TheConstants.{LIMIT}
use Rattle.sessions.specs.declared.end.Reason as reason
use Rattle.sessions.specs.declared.end.Reason.TheVariants as why
use Rattle.view_base.specs.Fitting.{word_at}
use Rattle.view_ends.specs.Desk.{Said, Untouched}
use Rattle.view_ends.specs.Ends.{Rose, RoseBy, AllStay, OthersStay}
use Rattle.view_meaning.specs.Classes.{classes}
use Rattle.view_meaning.specs.Layout as layout
use Rattle.view_meaning.specs.Layout.{IsLaid}
use Rattle.view_meaning.specs.Picture.{View, can_colour, picture}
use Rattle.view_meaning.specs.Survey.{format_of}
use Rattle.view_text.specs.declared.fault.TextFault as text
use Rattle.view_text.specs.declared.fault.TextFault.TheVariants as fault
use Rattle.view_commands.specs.declared.places.TheConstants.{SURVEY, OUT}
use Rattle.view_commands.specs.declared.status.Status as status
use Rattle.view_commands.specs.declared.status.Status.TheVariants.{Done, Limit, NoColour, OpenFault, ReadFault, TooLong, Survey, WriteFault, Memory}

-- a name was opened and read to the end of its bytes, which are few enough for a survey, and nothing failed
pub record IsReadWhole (tells : Bool) (old new : Said) (name b : List ℕ) : Type 0 where
  pub few : length b ≤ LIMIT
  -- these are all bytes of its file, where the desk tells them, and then it is there
  pub all : IfSome (old.file name) (λ file. file ≡ b)
  pub there : IsTrue tells → IsSome (old.file name)
  -- all were counted as taken, and neither its opening nor its reading failed
  pub counted : RoseBy (length b) (old.taken name) (new.taken name)
  pub opened : new.unopened name ≡ old.unopened name
  pub unfailed : new.reads name ≡ old.reads name

-- nothing changed but how much was taken of a name
pub record OnlyTook (old new : Said) (name : List ℕ) : Type 0 where
  pub others : OthersStay old.taken new.taken name
  pub rest : Untouched (record old { taken = new.taken }) new

-- nothing changed but a file, and what its writing and its keeping count
pub record OnlyWrote (old new : Said) (name : List ℕ) : Type 0 where
  pub files : OthersStay old.file new.file name
  pub writes : OthersStay old.writes new.writes name
  pub unkept : OthersStay old.unkept new.unkept name
  pub rest : Untouched (record old { file = new.file; writes = new.writes; unkept = new.unkept }) new

-- why a name gave no survey, and that nothing changed but what this counts
abbrev pub NoSurvey : Bool → Said → Said → List ℕ → status.Status → Type 0
NoSurvey tells old new name (OpenFault at) = (at ≡ SURVEY) × Rose (old.unopened name) (new.unopened name) × Untouched (record old { unopened = new.unopened }) new
NoSurvey tells old new name (ReadFault at) = (at ≡ SURVEY) × Rose (old.reads name) (new.reads name) × OnlyTook (record old { reads = new.reads }) new name
NoSurvey tells old new name TooLong = RoseBy (LIMIT + 1) (old.taken name) (new.taken name) × IfSome (old.file name) (λ b. LIMIT < length b) × OnlyTook old new name
NoSurvey tells old new name (Survey found) = ((b : List ℕ) × IsReadWhole tells old new name b × (layout.fault b ≡ Some found)) × OnlyTook old new name
NoSurvey tells old new name Memory = OnlyTook old new name
NoSurvey tells old new name _ = ⊥

-- where the desk tells its files and the keeping of a name was not refused, its file is a front of these bytes
-- that lacks the last of them, if there is one
abbrev pub HoldsPart : Bool → Said → Said → List ℕ → List ℕ → Type 0
HoldsPart tells old new name bytes = IsTrue tells → (Rose (old.unkept name) (new.unkept name) → ⊥) → (k : ℕ) × (k ≤ length bytes - 1) × (new.file name ≡ Some (take k bytes))

-- what came of bytes that were given to an opened name and kept: its file, and its count of failed writes
abbrev pub KeepsText : Bool → Said → Said → List ℕ → List ℕ → reason.Reason → Type 0
KeepsText tells old new name bytes why.Finished = (IsTrue tells → new.file name ≡ Some bytes) × (new.writes name ≡ old.writes name)
KeepsText tells old new name bytes why.WriteFault = HoldsPart tells old new name bytes × Rose (old.writes name) (new.writes name)
KeepsText tells old new name bytes why.Memory = HoldsPart tells old new name bytes × (new.writes name ≡ old.writes name)
KeepsText tells old new name bytes _ = ⊥

-- how the writing of a whole text to the name at a place of the command line ended, and what its file and its count
-- of failed writes are then
abbrev pub Writes : Bool → Said → Said → ℕ → List ℕ → List ℕ → status.Status → Type 0
Writes tells old new place out bytes Done = KeepsText tells old new out bytes why.Finished
Writes tells old new place out bytes (OpenFault at) = (at ≡ place) × AllStay old.file new.file × Rose (old.writes out) (new.writes out)
Writes tells old new place out bytes (WriteFault at) = (at ≡ place) × KeepsText tells old new out bytes why.WriteFault
Writes tells old new place out bytes Memory = (AllStay old.file new.file ⊎ HoldsPart tells old new out bytes) × (new.writes out ≡ old.writes out)
Writes tells old new place out bytes _ = ⊥

-- the status that the bytes of a survey decide, which a command may refuse with another one: too many bytes, the first
-- fault of their layout, or that refusal
abbrev pub status_by : List ℕ → Option status.Status → status.Status
status_by b refusal = if nat_le (length b) LIMIT then option_map_or Survey (layout.fault b) (unwrap_or refusal Done) else TooLong

-- where the desk tells its files, that of a name was opened and read without a fault, and what else the command needs to
-- be done has none, the bytes decide how it ends; want of memory is always free
abbrev pub SettlesFile : Bool → Said → Said → List ℕ → (List ℕ → Option status.Status) → Type 0 → status.Status → Type 0
SettlesFile tells old new name refusal calm ended = IsTrue tells → (b : List ℕ) → old.file name ≡ Some b
    → (Rose (old.unopened name) (new.unopened name) → ⊥) → (Rose (old.reads name) (new.reads name) → ⊥)
    → (status_by b (refusal b) ≡ Done → calm) → (ended ≡ status_by b (refusal b)) ⊎ (ended ≡ Memory)

-- what a command makes of the survey of one name, which it may refuse with a status, and writes into the file of
-- another: no survey came, or it is refused, or the text of its bytes was written; and no other file changed
pub record MakesText (tells : Bool) (old new : Said) (survey out : List ℕ) (refusal : List ℕ → Option status.Status) (text : List ℕ → List ℕ) (ended : status.Status) : Type 0 where
  -- no survey came, by its cause; or one that is laid out was read to its end, and its text was written, or why not; or
  -- it is refused, and nothing changed but how much was taken of it
  pub outcome : NoSurvey tells old new survey ended ⊎ ((b : List ℕ) × IsLaid b × IsReadWhole tells old new survey b
      × ((refusal b ≡ None) × Writes tells old new OUT out (text b) ended ⊎ (refusal b ≡ Some ended) × OnlyTook old new survey))
  -- no other file changed
  pub others : OthersStay old.file new.file out
  -- and the status where nothing outside failed
  pub settled : SettlesFile tells old new survey refusal (Rose (old.writes out) (new.writes out) → ⊥) ended

-- the refusal of a survey by its point format, where that has no red, green and blue and a view shows them
abbrev pub colour_refusal : View → List ℕ → Option status.Status
colour_refusal view b = if can_colour (format_of b) view.colouring then None else Some (NoColour (format_of b))

-- how a `draw` is answered whose words ask for this view, which is drawn by the classes that the file itself has, or have
-- a camera number out of its range
abbrev pub DrawsView : Bool → Said → Said → List (List ℕ) → Result View text.TextFault → status.Status → Type 0
DrawsView tells old new ws (Ok view) ended = MakesText tells old new (word_at ws 1) (word_at ws 2) (colour_refusal view) (λ b. picture b (classes b []) view) ended
DrawsView tells old new ws (Err (fault.Limit limit)) ended = (ended ≡ Limit limit) × Untouched old new
DrawsView tells old new ws (Err (fault.Line _)) ended = ⊥
