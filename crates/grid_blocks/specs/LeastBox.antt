-- The least box that holds some points.
use Rattle.std.specs.Prelude.{◌≡◌, ℕ, ◌+◌, ◌<◌, ◌≤◌, ◌^◌, IsTrue, List}
use Rattle.std.specs.List.{All, Any}
use Rattle.view_base.specs.declared.place.Point.{Point}
use Rattle.view_base.specs.declared.place.Box3.{Box3}
use Rattle.view_meaning.specs.Classes.{in_box}
use Rattle.view_meaning.specs.Survey.{record_count}

-- each point lies in the box, and each of its six faces has one
pub record IsLeastBox (points : List Point) (area : Box3) : Type 0 where
  pub within : All (λ p. IsTrue (in_box area p)) points
  pub min_x : Any (λ p. p.x ≡ area.min.x) points
  pub min_y : Any (λ p. p.y ≡ area.min.y) points
  pub min_z : Any (λ p. p.z ≡ area.min.z) points
  pub max_x : Any (λ p. p.x ≡ area.max.x) points
  pub max_y : Any (λ p. p.y ≡ area.max.y) points
  pub max_z : Any (λ p. p.z ≡ area.max.z) points

-- a survey has so many records from a first on, and there are not more workers than they can share
pub record HasRecords (b : List ℕ) (first count workers : ℕ) : Type 0 where
  pub some : 1 ≤ count
  pub within : first + count ≤ record_count b
  pub few : first + count < 2 ^ 32
  pub workers_few : workers ≤ 64
