-- What every set of classes keeps, and one that a class list names.
use Rattle.std.specs.Prelude.{ℕ, ◌^◌, ◌<◌, ◌≡◌, List, length, slice_index}
use Rattle.class_bits.specs.ClassSet.{members}

-- what each set of classes is: four words of 64 bits
pub record IsClassSet (set : List ℕ) : Type 0 where
  pub four : length set ≡ 4
  pub fits : (k : ℕ) → slice_index set k < 2 ^ 64

-- a set of classes with at least one class
pub record HasClasses (set : List ℕ) : Type 0 where
  pub words : IsClassSet set
  pub some : 0 < length (members set)
