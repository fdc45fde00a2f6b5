-- Two places, one coordinate at a time.
use Rattle.std.specs.Prelude.{ℤ}
use Rattle.view_base.specs.declared.place.Point.{Point}

-- the lesser or the greater of two places, by int_min or int_max, in each coordinate
abbrev pub picked : (ℤ → ℤ → ℤ) → Point → Point → Point
picked pick p q = record { x = pick p.x q.x; y = pick p.y q.y; z = pick p.z q.z }
