-- The seats of workers, before and after their work.
use Rattle.std.specs.Prelude.{◌≡◌, List, [], false, length, map}
use Rattle.std.specs.List.{All, range_with_len}
use Rattle.atomic_table.specs.Seated.{TableId}
use Rattle.min_frame.specs.Meaning.{Seated}
use Rattle.splat_workers.specs.declared.plan.Plan.{Plan}
use Rattle.splat_workers.specs.declared.worker.Worker.{Worker}
use Rattle.splat_workers.specs.Drawing.{claimed_pairs}

-- a seat of a frame with which nothing was done, and one of whose claims may find nothing left
pub record IsReady (frame : TableId) (seat : Seated) : Type 0 where
  pub of_frame : seat.frame ≡ frame
  pub plots : seat.plots ≡ []
  pub claims : seat.claims ≡ []
  pub ends : seat.ends ≡ 1

-- a seat of a frame that plotted the pairs of the pieces that it claimed, and found nothing left
pub record HasDrawn (plan : Plan) (frame : TableId) (seat : Seated) : Type 0 where
  pub of_frame : seat.frame ≡ frame
  pub plots : seat.plots ≡ claimed_pairs plan seat.claims
  pub ends : seat.ends ≡ 0

-- workers beside the one who has the root, each with a seat that is ready
abbrev pub AreReady : TableId → List Worker → Type 0
AreReady frame others = All (λ worker. IsReady frame worker.seat × (worker.seat.root ≡ false)) others

-- workers beside the one who has the root, each of whom has drawn
abbrev pub HaveDrawn : Plan → TableId → List Worker → Type 0
HaveDrawn plan frame others = All (λ worker. HasDrawn plan frame worker.seat × (worker.seat.root ≡ false)) others

-- behind worker 0, who has the root, the others are workers 1, 2 and so on
abbrev pub AreNumbered : List Worker → Type 0
AreNumbered others = map (λ worker. worker.number) others ≡ range_with_len 1 (length others)
