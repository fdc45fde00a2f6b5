-- How often an output failed while something was given to it.
use Rattle.std.specs.Prelude.{◌≡◌, ℕ, ◌≤◌, Result, OnOk, IsErrOf}
use Rattle.view_ends.specs.Ends.{Rose}
use Rattle.view_ends.specs.declared.fault.EndFault.{EndFault}
use Rattle.view_ends.specs.declared.fault.EndFault.TheVariants.{Failed, Memory}

-- its count of faults rose where it failed, and else stayed
pub record Gave (before after : ℕ) (result : Result (Unit {0}) EndFault) : Type 0 where
  pub calm : OnOk result (after ≡ before)
  pub failed : IsErrOf result Failed → Rose before after
  pub memory : IsErrOf result Memory → after ≡ before
  pub later : before ≤ after
