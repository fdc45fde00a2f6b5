-- Values in turns that have a store of versions.
use Rattle.std.specs.Prelude.{◌≡◌, ℕ, List, [], ◌∷◌, ◌++◌}
use Rattle.version_store.specs.declared.history.What.{What}
use Rattle.version_store.specs.declared.history.Entry.{Entry}

-- what a caller did to the versions
abbrev pub entry_by : ℕ → What → Entry
entry_by who what = record { who = who; what = what }

-- one more entry, by which a caller did this to the versions
pub record Gains {E : Type 0} (maker : E → ℕ) (history : List E → List Entry) (entry : E) (done : Entry) (old new : List E) : Type 0 where
  pub added : new ≡ old ++ entry ∷ []
  pub caller : maker entry ≡ done.who
  pub told : history new ≡ history old ++ done ∷ []
