-- What a load took.
use Rattle.std.specs.Prelude.{◌≡◌, ℕ, ◌+◌, List, length, Option}
use Rattle.view_ends.specs.Ends.{Leaves, IsSpent}

-- these bytes were taken: they came off the front of what was left, and as many were counted
pub record Took (old : Option (List ℕ)) (before : ℕ) (bytes : List ℕ) (new : Option (List ℕ)) (after : ℕ) : Type 0 where
  pub came : Leaves old bytes new
  pub counted : after ≡ before + length bytes

-- these bytes were taken, and they are all that there were
pub record TookAll (old : Option (List ℕ)) (before : ℕ) (bytes : List ℕ) (new : Option (List ℕ)) (after : ℕ) : Type 0 where
  pub took : Took old before bytes new after
  pub ended : IsSpent new
