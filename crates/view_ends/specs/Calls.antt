-- What each call of a desk does to what it says of its files.
use Rattle.std.specs.Prelude.{◌≡◌, ℕ, ◌+◌, ◌<◌, List, [], Option, Some, None, Bool, IsTrue, Result, OnOk, OnErr, IsErrOf}
use Rattle.view_ends.specs.Ends.{Rose, RoseBy, IsSpent, AllStay, OthersStay, NoneFalls}
use Rattle.view_ends.specs.Desk.{Said, IsKnown, Untouched}
use Rattle.view_ends.specs.declared.fault.EndFault.{EndFault}
use Rattle.view_ends.specs.declared.fault.EndFault.TheVariants.{Failed, Memory}

-- a desk of which nothing is told or counted yet
pub record IsNew (new : Said) : Type 0 where
  pub files : (name : List ℕ) → new.file name ≡ None
  pub unopened : (name : List ℕ) → new.unopened name ≡ 0
  pub reads : (name : List ℕ) → new.reads name ≡ 0
  pub writes : (name : List ℕ) → new.writes name ≡ 0
  pub taken : (name : List ℕ) → new.taken name ≡ 0
  pub unkept : (name : List ℕ) → new.unkept name ≡ 0

-- a file of these bytes was put under a name, or no file changed
pub record Puts {E : Type 0} (old new : Said) (name bytes : List ℕ) (result : Result (Unit {0}) E) : Type 0 where
  pub put : OnOk result (new.file name ≡ Some bytes)
  pub others : OthersStay old.file new.file name
  pub refused : OnErr result (AllStay old.file new.file)
  pub unknown : OnErr result (AllStay old.known new.known)
  pub rest : Untouched (record old { file = new.file }) new

-- an input that was opened on a file
pub record IsFreshIn (file left : Option (List ℕ)) (taken faults : ℕ) : Type 0 where
  pub bytes : left ≡ file
  pub untaken : taken ≡ 0
  pub faultless : faults ≡ 0

-- an output that was opened, and the file that it empties
pub record IsFreshOut (tells : Bool) (file got : Option (List ℕ)) (faults : ℕ) : Type 0 where
  pub bytes : file ≡ got
  pub empty : IsSpent got
  pub told : IsTrue tells → got ≡ Some []
  pub faultless : faults ≡ 0

-- a name was opened for reading, or not
pub record OpensIn {I : Type 0} (old new : Said) (name : List ℕ) (result : Result I EndFault) : Type 0 where
  pub opened : OnOk result (IsKnown new name)
  pub failed : IsErrOf result Failed → Rose (old.unopened name) (new.unopened name)
  pub calm : OnOk result (new.unopened name ≡ old.unopened name)
  pub memory : IsErrOf result Memory → new.unopened name ≡ old.unopened name
  pub unknown : OnErr result (AllStay old.known new.known)
  pub others : OthersStay old.unopened new.unopened name
  pub later : NoneFalls old.unopened new.unopened
  pub rest : Untouched (record old { unopened = new.unopened }) new

-- an input of a name was shut, of which so many bytes were taken and that failed so often
pub record Shuts (old new : Said) (name : List ℕ) (taken faults : ℕ) : Type 0 where
  pub count : RoseBy taken (old.taken name) (new.taken name)
  pub other_counts : OthersStay old.taken new.taken name
  pub counted : 0 < faults → Rose (old.reads name) (new.reads name)
  pub calm : faults ≡ 0 → new.reads name ≡ old.reads name
  pub others : OthersStay old.reads new.reads name
  pub later : NoneFalls old.reads new.reads
  pub rest : Untouched (record old { taken = new.taken; reads = new.reads }) new

-- a name was opened for writing, or not
pub record OpensOut {O : Type 0} (old new : Said) (name : List ℕ) (result : Result O EndFault) : Type 0 where
  pub opened : OnOk result (IsKnown new name)
  pub files : OthersStay old.file new.file name
  pub refused : OnErr result (AllStay old.file new.file)
  pub failed : IsErrOf result Failed → Rose (old.writes name) (new.writes name)
  pub calm : OnOk result (new.writes name ≡ old.writes name)
  pub memory : IsErrOf result Memory → new.writes name ≡ old.writes name
  pub unknown : OnErr result (AllStay old.known new.known)
  pub others : OthersStay old.writes new.writes name
  pub later : NoneFalls old.writes new.writes
  pub rest : Untouched (record old { file = new.file; writes = new.writes }) new

-- an output of a name was kept, that got these bytes and failed so often, or was refused
pub record Keeps (old new : Said) (name : List ℕ) (got : Option (List ℕ)) (faults : ℕ) (result : Result (Unit {0}) EndFault) : Type 0 where
  pub kept : OnOk result (new.file name ≡ got)
  pub files : OthersStay old.file new.file name
  pub failed : IsErrOf result Failed → Rose (old.writes name + faults) (new.writes name)
  pub counted : 0 < faults → Rose (old.writes name) (new.writes name)
  pub calm : OnOk result (faults ≡ 0 → new.writes name ≡ old.writes name)
  pub memory : IsErrOf result Memory → faults ≡ 0 → new.writes name ≡ old.writes name
  pub others : OthersStay old.writes new.writes name
  pub later : NoneFalls old.writes new.writes
  pub refused : OnErr result (Rose (old.unkept name) (new.unkept name))
  pub not_refused : OnOk result (new.unkept name ≡ old.unkept name)
  pub other_refusals : OthersStay old.unkept new.unkept name
  pub later_refusals : NoneFalls old.unkept new.unkept
  pub rest : Untouched (record old { file = new.file; writes = new.writes; unkept = new.unkept }) new
