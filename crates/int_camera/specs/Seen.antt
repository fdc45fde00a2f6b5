-- Where a point shows in a picture: the spot as a pixel and a depth.
use Rattle.std.specs.Prelude.{Option, Some, None}
use Rattle.view_meaning.specs.Camera as meaning
use Rattle.view_meaning.specs.Camera.{Lens, pixel_of}
use Rattle.int_camera.specs.declared.projection.Spot.{Spot}

-- a spot of a camera's picture by its pixel and depth, or none
abbrev pub seen : Lens → Option meaning.Spot → Option Spot
seen lens None = None
seen lens (Some s) = Some record { pixel = pixel_of lens s; depth = s.depth }
