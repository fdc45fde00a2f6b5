-- A session among others, part way through its input.
use Rattle.std.specs.Prelude.{◌≡◌, ℕ, ◌-◌, ◌≤◌, ◌<◌, ◌⊎◌, List, [], ◌∷◌, ◌++◌, length, take, drop, slice_index, slice_index_or, slice_get, Bool, IsTrue, IsFalse, Option, Some, None, Result, IfOk, Ok, OnErr}
use mathlib.Core.List.{IsPrefix}
use Rattle.atomic_table.specs.Seated.{TableId}
use Rattle.turn_gate.specs.Meaning.{Passed}
use Rattle.view_base.specs.Listed.{Listed}
use Rattle.view_ends.specs.Ends.{Gains, GainsPart}
use Rattle.view_lines.specs.declared.command.Command.{Command}
use Rattle.version_store.specs.declared.history.Entry.{Entry}
use Rattle.version_store.specs.Histories.{journal, numbered, entries_by}
use Rattle.version_store.specs.Sharing.{IsOwn}
use Rattle.sessions.specs.Session.{Item, reply, replies, Makes, GotMost}

-- its pass, and the marks of the items that it processed
pub record Talk : Type 0 where
  pub pass : Passed Entry
  pub marks : List ℕ

abbrev pub talk_of : Passed Entry → Listed ℕ → Talk
talk_of pass marks = record { pass = pass; marks = marks.items }

-- what stood when it began: its pass, and what its output had got
pub record Start : Type 0 where
  pub pass : Passed Entry
  pub got : Option (List ℕ)

-- a pass of this gate that is outside any turn
pub record IsReady (name : TableId) (pass : Passed Entry) : Type 0 where
  pub gate : pass.gate ≡ name
  pub outside : pass.turn ≡ None
  pub own : IsOwn pass

-- a pass saw more of the history, in which its own new entries are these, each with the newest version once it was made
pub record Made (old new : Passed Entry) (own : List (Entry × ℕ)) : Type 0 where
  pub begins : IsPrefix old.seen new.seen
  pub entries : entries_by old.who (numbered 0 new.seen) ≡ entries_by old.who (numbered 0 old.seen) ++ own
  pub pass : new ≡ record old { seen = new.seen; mine = new.mine }

-- nothing was processed
pub record Stays (old new : Talk) : Type 0 where
  pub made : Made old.pass new.pass []
  pub marks : new.marks ≡ old.marks

-- the last mark, or 0 where there is none
abbrev pub last_mark : List ℕ → ℕ
last_mark marks = slice_index_or marks (length marks - 1) 0

-- one more item was processed: its entries were made, and its mark is no older than what had been seen before
pub record Adds (old new : Talk) (item : Item) : Type 0 where
  pub mark : ℕ
  pub entries : List (Entry × ℕ)
  pub made : Made old.pass new.pass entries
  pub makes : Makes (last_mark old.marks) (item ∷ []) (mark ∷ []) entries
  pub newer : IfOk item (λ command. length (journal old.pass.seen) ≤ mark)
  pub marks : new.marks ≡ old.marks ++ mark ∷ []

-- the reply to an item that was just processed
abbrev pub last_reply : List ℕ → Talk → Item → List ℕ
last_reply b talk item = reply b (journal talk.pass.seen) item (last_mark talk.marks)

-- an item was processed and its reply made, or there was no memory for one of both
pub record Replied {E : Type 0} (b : List ℕ) (old new : Talk) (item : Item) (reply : Result (Listed ℕ) E) : Type 0 where
  pub made : IfOk reply (λ text. Adds old new item × (text.items ≡ last_reply b new item))
  pub none : OnErr reply (Stays old new ⊎ Adds old new item)

-- an item was processed and its reply given whole, or the output got some front of it, or nothing was done
pub record Answered (b : List ℕ) (old new : Talk) (item : Item) (before after : Option (List ℕ)) (done : Bool) : Type 0 where
  pub whole : IsTrue done → Adds old new item × Gains before (last_reply b new item) after
  pub part : IsFalse done → (Stays old new × (after ≡ before)) ⊎ (Adds old new item × GainsPart before (last_reply b new item) after)

-- the same of a line, which may be no item at all
abbrev pub AnsweredAll : List ℕ → Talk → Talk → List Item → Option (List ℕ) → Option (List ℕ) → Bool → Type 0
AnsweredAll b old new [] before after done = IsTrue done × Stays old new × (after ≡ before)
AnsweredAll b old new (item ∷ others) before after done = Answered b old new item before after done

-- while the history grew from h0 to h, a session by this number processed these items under these marks
pub record IsTale (h0 h : List Entry) (who : ℕ) (items : List Item) (marks : List ℕ) : Type 0 where
  pub begins : IsPrefix h0 h
  pub makes : Makes 0 items marks (entries_by who (drop (length h0) (numbered 0 h)))
  pub rising : (j k : ℕ) → j ≤ k → k < length marks → slice_index marks j ≤ slice_index marks k
  pub newer : (k : ℕ) (command : Command) → slice_get items k ≡ Some (Ok command) → length (journal h0) ≤ slice_index marks k

-- a session that began so processed these items
pub record HasProcessed (start : Start) (talk : Talk) (items : List Item) : Type 0 where
  pub tale : IsTale start.pass.seen talk.pass.seen start.pass.who items talk.marks
  pub pass : talk.pass ≡ record start.pass { seen = talk.pass.seen; mine = talk.pass.mine }

-- and its output has their replies
pub record IsAnswering (b : List ℕ) (items : List Item) (talk : Talk) (start : Start) (now : Option (List ℕ)) : Type 0 where
  pub processed : HasProcessed start talk items
  pub got : Gains start.got (replies b (journal talk.pass.seen) items talk.marks) now

-- a session that gave up before it answered all of these items: it processed some first ones
pub record GaveUp (b : List ℕ) (all : List Item) (talk : Talk) (start : Start) (now : Option (List ℕ)) : Type 0 where
  pub count : ℕ
  pub processed : HasProcessed start talk (take count all)
  pub got : GotMost b (journal talk.pass.seen) (take count all) talk.marks start.got now
