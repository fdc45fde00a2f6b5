-- What every point of an edit keeps.
use Rattle.std.specs.Prelude.{FitsSigned}
use Rattle.std.specs.Int.{w32}
use Rattle.view_base.specs.declared.place.Point.{Point}

-- a point whose coordinates have 32 bits
pub record IsPoint (p : Point) : Type 0 where
  pub x : FitsSigned w32 p.x
  pub y : FitsSigned w32 p.y
  pub z : FitsSigned w32 p.z
