-- The cells of a box.
use Rattle.std.specs.Prelude.{ℕ, ◌+◌, ◌*◌, ◌/◌, ◌^◌, ◌<◌, ◌≤◌, max, ℤ, ◌-ℤ◌}
use Rattle.std.specs.Int.RustNames.{unsigned_abs}
use Rattle.view_base.specs.declared.place.Point.{Point}
use Rattle.view_base.specs.declared.place.Box3.{Box3}

-- the greatest of the three extents of a box
abbrev pub extent : Box3 → ℕ
extent area = max (max (unsigned_abs (area.max.x -ℤ area.min.x)) (unsigned_abs (area.max.y -ℤ area.min.y))) (unsigned_abs (area.max.z -ℤ area.min.z))

-- the exponent of the cells of a box: the least e such that its greatest extent has less than 64 times 2^e
pub record IsExponent (area : Box3) (e : ℕ) : Type 0 where
  pub fits : extent area / 2 ^ e < 64
  pub least : (d : ℕ) → d < e → 64 ≤ extent area / 2 ^ d

-- the cell along one axis, from the least coordinate
abbrev pub cell : ℕ → ℤ → ℤ → ℕ
cell e low at = unsigned_abs (at -ℤ low) / 2 ^ e

-- the key of the cell of a point in a box
unfoldable pub key : Box3 → ℕ → Point → ℕ
key area e p = (cell e area.min.z p.z * 64 + cell e area.min.y p.y) * 64 + cell e area.min.x p.x
