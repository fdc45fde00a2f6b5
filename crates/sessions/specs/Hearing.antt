-- A session part way through its input.
use Rattle.std.specs.Prelude.{◌≡◌, ℕ, ◌+◌, ◌≤◌, ◌<◌, ◌++◌, List, length, IsTrue, IsFalse, Option}
use Rattle.turn_gate.specs.Meaning.{Passed}
use Rattle.version_store.specs.declared.history.Entry.{Entry}
use Rattle.view_base.specs.Listed.{Listed}
use Rattle.view_meaning.specs.Survey.{format_of}
use Rattle.sessions.specs.declared.pending.TheConstants.{LINE}
use Rattle.sessions.specs.declared.pending.Pending.{Pending}
use Rattle.sessions.specs.Session.{commands, rest, whole}
use Rattle.sessions.specs.Talk.{Talk, Start, GaveUp, IsAnswering, talk_of}

-- the part of a line that is kept: its bytes where they are few enough, else that they are too many
pub record IsPending (pending : Pending) (line : List ℕ) : Type 0 where
  pub few : IsFalse pending.long → pending.bytes.items ≡ line
  pub many : IsTrue pending.long → LINE < length line
  pub within : length pending.bytes.items ≤ LINE
  pub room : LINE ≤ length pending.bytes.items + pending.bytes.spare

-- a session has heard this part of its input: it has answered the lines that ended, and the last one is kept
pub record HasHeard (b t : List ℕ) (talk : Talk) (pending : Pending) (start : Start) (now : Option (List ℕ)) : Type 0 where
  pub answering : IsAnswering b (commands (format_of b) t) talk start now
  pub kept : IsPending pending (rest t)

-- what a session has at a moment: its talk, the line that is being read, and what its output has got
pub record Moment : Type 0 where
  pub talk : Talk
  pub pending : Pending
  pub got : Option (List ℕ)

abbrev pub moment : Passed Entry → Listed ℕ → Pending → Option (List ℕ) → Moment
moment pass marks pending got = record { talk = talk_of pass marks; pending = pending; got = got }

-- a session that began so has at this moment heard this text
abbrev pub HasHeardAt : List ℕ → Start → Moment → List ℕ → Type 0
HasHeardAt b start at t = HasHeard b t at.talk at.pending start at.got

-- it began somehow, and has heard some text
abbrev pub Hears : List ℕ → Moment → Type 0
Hears b at = (t : List ℕ) × (start : Start) × HasHeardAt b start at t

-- whatever it had heard, it has now heard this piece too
abbrev pub HearsMore : List ℕ → List ℕ → Moment → Moment → Type 0
HearsMore b piece old new = (t : List ℕ) → (start : Start) → HasHeardAt b start old t → HasHeardAt b start new (t ++ piece)

-- whatever it had heard, it gave up at a line that ended in this piece
abbrev pub GivesUp : List ℕ → List ℕ → Moment → Moment → Type 0
GivesUp b piece old new = (t : List ℕ) → (start : Start) → HasHeardAt b start old t → GaveUp b (commands (format_of b) (t ++ piece)) new.talk start new.got

-- whatever it had heard, it has answered all of it, its last line too
abbrev pub AnswersAll : List ℕ → Moment → Moment → Type 0
AnswersAll b old new = (t : List ℕ) → (start : Start) → HasHeardAt b start old t → IsAnswering b (whole (format_of b) t) new.talk start new.got

-- or it gave up at one of its lines
abbrev pub GivesUpAll : List ℕ → Moment → Moment → Type 0
GivesUpAll b old new = (t : List ℕ) → (start : Start) → HasHeardAt b start old t → GaveUp b (whole (format_of b) t) new.talk start new.got
