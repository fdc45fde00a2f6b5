-- What a source and a sink say at a moment, and what a take and a give do to that.
use Rattle.std.specs.Prelude.{◌≡◌, ℕ, ◌+◌, ◌<◌, ◌≤◌, List, length, take, Option, Result, IfOk, OnOk, OnErr, IsErrOf}
use Rattle.view_ends.specs.Ends.{Rose, Leaves, Gains, IsSpent}
use Rattle.view_ends.specs.declared.fault.EndFault.{EndFault}
use Rattle.view_ends.specs.declared.fault.EndFault.TheVariants.{Failed, Memory}

-- the bytes not yet taken, where they are told, how many were taken, and how often a take failed
pub record SourceSaid : Type 0 where
  pub left : Option (List ℕ)
  pub taken : ℕ
  pub faults : ℕ

-- the bytes given so far, where they are told, and how often a give failed
pub record SinkSaid : Type 0 where
  pub got : Option (List ℕ)
  pub faults : ℕ

-- bytes went to the front of a buffer, or a fault was counted and nothing went
pub record Takes {E : Type 0} (old new : SourceSaid) (was is : List ℕ) (result : Result ℕ E) : Type 0 where
  pub bytes : IfOk result (λ n. Leaves old.left (take n is) new.left)
  pub fits : IfOk result (λ n. n ≤ length was)
  pub count : IfOk result (λ n. new.taken ≡ old.taken + n)
  pub end : IfOk result (λ n. n ≡ 0 → 0 < length was → IsSpent new.left)
  pub calm : OnOk result (new.faults ≡ old.faults)
  pub failed : OnErr result (Rose old.faults new.faults)
  pub kept : OnErr result (new.left ≡ old.left)
  pub uncounted : OnErr result (new.taken ≡ old.taken)
  pub later : old.faults ≤ new.faults

-- the front of a piece went, or a fault was counted or memory wanted, and nothing went
pub record Gives (old new : SinkSaid) (piece : List ℕ) (result : Result ℕ EndFault) : Type 0 where
  pub bytes : IfOk result (λ n. Gains old.got (take n piece) new.got)
  pub fits : IfOk result (λ n. n ≤ length piece)
  pub some : IfOk result (λ n. 0 < length piece → 0 < n)
  pub calm : OnOk result (new.faults ≡ old.faults)
  pub failed : IsErrOf result Failed → Rose old.faults new.faults
  pub memory : IsErrOf result Memory → new.faults ≡ old.faults
  pub kept : OnErr result (new.got ≡ old.got)
  pub later : old.faults ≤ new.faults
