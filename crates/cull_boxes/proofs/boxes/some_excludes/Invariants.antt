use Rattle.std.proofs.Common.{All, take}
use Rattle.cull_boxes.specs.Outside.{Excludes}
use Rattle.cull_boxes.proofs.boxes.some_excludes.Given as goal

abbrev pub invariant-loop-space : goal.invariant-loop-space
invariant-loop-space g l = All (λ s. ¬ Excludes (g.S.Cull.half_space s) l.area) (take l.space-index l.spaces)
