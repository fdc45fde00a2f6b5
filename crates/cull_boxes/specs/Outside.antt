-- Boxes outside a camera's view.
use Rattle.std.specs.Prelude.{List, [], ◌∷◌}
use Rattle.std.specs.List.{All, Any}
use Rattle.view_base.specs.declared.place.Point.{Point}
use Rattle.view_base.specs.declared.place.Box3.{Box3}
use Rattle.view_meaning.specs.Camera.{Lens}
use Rattle.int_camera.specs.declared.half_space.HalfSpace.{HalfSpace}
use Rattle.int_camera.specs.HalfSpaces.{Meets, half_spaces}

-- the eight corners of a box
abbrev pub corners : Box3 → List Point
corners area =
    record { x = area.min.x; y = area.min.y; z = area.min.z } ∷ record { x = area.max.x; y = area.min.y; z = area.min.z }
    ∷ record { x = area.min.x; y = area.max.y; z = area.min.z } ∷ record { x = area.max.x; y = area.max.y; z = area.min.z }
    ∷ record { x = area.min.x; y = area.min.y; z = area.max.z } ∷ record { x = area.max.x; y = area.min.y; z = area.max.z }
    ∷ record { x = area.min.x; y = area.max.y; z = area.max.z } ∷ record { x = area.max.x; y = area.max.y; z = area.max.z }
    ∷ []

-- a half-space that has no corner of a box
abbrev pub Excludes : HalfSpace → Box3 → Type 0
Excludes h area = All (λ corner. ¬ Meets h corner) (corners area)

-- a box outside a camera's view: one of the six half-spaces has none of its corners
abbrev pub IsOutside : Lens → Box3 → Type 0
IsOutside lens area = Any (λ h. Excludes h area) (half_spaces lens)
