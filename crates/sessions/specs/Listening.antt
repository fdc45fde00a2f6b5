-- A session whose input was heard as far as it goes.
use Rattle.std.specs.Prelude.{◌≡◌, ℕ, ◌≤◌, List, Option, IfSome, Result, Ok, Err}
use Rattle.view_ends.specs.Ends.{Rose}
use Rattle.view_ends.specs.declared.fault.EndFault.{EndFault}
use Rattle.view_ends.specs.declared.fault.EndFault.TheVariants as fault
use Rattle.view_meaning.specs.Survey.{format_of}
use Rattle.sessions.specs.declared.end.Reason as reason
use Rattle.sessions.specs.declared.end.Reason.TheVariants.{Finished, ReadFault, WriteFault, Memory}
use Rattle.sessions.specs.Session.{Item, Processed, Got}
use Rattle.version_store.specs.Histories.{journal}
use Rattle.sessions.specs.Talk.{Talk, Start, HasProcessed}

-- why a session ended whose last replies went so
abbrev pub reason_of : Result (Unit {0}) EndFault → reason.Reason
reason_of (Ok done) = Finished
reason_of (Err fault.Failed) = WriteFault
reason_of (Err fault.Memory) = Memory

-- of its input, which has these bytes where they are told, a session processed these items, and its output
-- got the replies
pub record Listened (b : List ℕ) (talk : Talk) (start : Start) (left new : Option (List ℕ)) (reason : reason.Reason) (taken : ℕ) : Type 0 where
  pub input : List ℕ
  pub items : List Item
  pub input_is : IfSome left (λ all. all ≡ input)
  pub allowed : Processed (format_of b) input taken reason items
  pub processed : HasProcessed start talk items
  pub got : Got b (journal talk.pass.seen) items talk.marks start.got new reason

-- a source's count of faults rose where reading failed, and else stayed
pub record Read (before after : ℕ) (reason : reason.Reason) : Type 0 where
  pub fault : reason ≡ ReadFault → Rose before after
  pub calm : (reason ≡ ReadFault → ⊥) → after ≡ before
  pub later : before ≤ after

-- a sink's count of faults rose where writing failed, and else stayed
pub record Wrote (before after : ℕ) (reason : reason.Reason) : Type 0 where
  pub fault : reason ≡ WriteFault → Rose before after
  pub calm : (reason ≡ WriteFault → ⊥) → after ≡ before
  pub later : before ≤ after
