-- What copies of the records that words name say of the records of their numbers.
use Rattle.std.proofs.Common.{◌≡◌, ℕ, ◌%◌, ◌^◌, List, map, sym, ◌∙◌, ap}
use Rattle.std.specs.Prelude.{Bool}
use Rattle.std.proofs.lemmas.Simd.{map-map}
use Rattle.view_base.specs.declared.place.Point.{Point}
use Rattle.view_meaning.specs.Survey.{point_of, withheld_of}
use Rattle.grid_blocks.specs.Copying.{AreCopied}

pub points-copied : (b words numbers : List ℕ) (points : List Point) (bits : List Bool) → AreCopied b words numbers points bits → points ≡ map (point_of b) numbers
points-copied b words numbers points bits h = h.points_are ∙ sym (ap (map (point_of b)) h.numbers_are ∙ map-map (point_of b) (λ (w : ℕ). w % 2 ^ 26) words)

pub bits-copied : (b words numbers : List ℕ) (points : List Point) (bits : List Bool) → AreCopied b words numbers points bits → bits ≡ map (withheld_of b) numbers
bits-copied b words numbers points bits h = h.bits_are ∙ sym (ap (map (withheld_of b)) h.numbers_are ∙ map-map (withheld_of b) (λ (w : ℕ). w % 2 ^ 26) words)
