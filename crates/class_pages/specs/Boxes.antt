-- Boxes that meet or cover one another.
use Rattle.std.specs.Prelude.{◌&&◌, Bool}
use Rattle.view_base.specs.declared.place.Box3.{Box3}
use lib.Signed.{le_z}

-- whether two boxes, each of which holds a point, have a point in common
abbrev pub meets : Box3 → Box3 → Bool
meets a b = le_z a.min.x b.max.x && le_z b.min.x a.max.x && le_z a.min.y b.max.y && le_z b.min.y a.max.y && le_z a.min.z b.max.z && le_z b.min.z a.max.z

-- whether a box holds the whole of another, which holds a point
abbrev pub covers : Box3 → Box3 → Bool
covers a b = le_z a.min.x b.min.x && le_z b.max.x a.max.x && le_z a.min.y b.min.y && le_z b.max.y a.max.y && le_z a.min.z b.min.z && le_z b.max.z a.max.z
