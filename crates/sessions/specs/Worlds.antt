-- What a session needs of what it shares with others, and of its pass.
use Rattle.std.specs.Prelude.{◌≡◌, ℕ, ◌≤◌, List}
use Rattle.std.specs.Arc.{arc_value}
use Rattle.grid_blocks.specs.Blocks.{IsBlocks}
use Rattle.view_meaning.specs.Survey.{format_of}
use Rattle.version_store.specs.declared.history.Entry.{Entry}
use Rattle.version_store.specs.Histories.{numbered, entries_by, is_pin, is_unpin, how_many}
use Rattle.sessions.specs.declared.drawing.Scene.{Scene}
use Rattle.sessions.specs.declared.world.World.{World}

-- a scene that pictures can be drawn of: by 1 to 64 workers, over blocks of its survey
pub record IsScene (scene : Scene) : Type 0 where
  pub some : 1 ≤ scene.workers
  pub few : scene.workers ≤ 64
  pub blocks : IsBlocks (arc_value scene.survey) (arc_value scene.blocks)

-- a world whose store is over the survey of its scene
pub record IsWorld (world : World) : Type 0 where
  pub scene : IsScene world.scene
  pub bytes : world.shared.bytes ≡ arc_value world.scene.survey

-- the bytes of the survey of a world
abbrev pub survey_of : World → List ℕ
survey_of world = arc_value world.scene.survey

-- and its point format
abbrev pub world_format : World → ℕ
world_format world = format_of (survey_of world)

-- a caller gave each of its pins back
abbrev pub HasGivenBack : List Entry → ℕ → Type 0
HasGivenBack h who = (v : ℕ) → how_many (is_unpin v) (entries_by who (numbered 0 h)) ≡ how_many (is_pin v) (entries_by who (numbered 0 h))
