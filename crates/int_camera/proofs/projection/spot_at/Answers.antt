use Rattle.std.proofs.Common.{◌≡◌, ◌∙◌, ◌+◌, ◌*◌, Some, None, refl, sym, subst}
use Rattle.std.proofs.lemmas.Int.{to_z-of_z}
use Rattle.view_meaning.specs.Camera.{Lens, floor, between, spot_of}
use Rattle.int_camera.specs.Seen.{seen}
use Rattle.int_camera.proofs.Spots.{shown}
use Rattle.int_camera.proofs.projection.spot_at.Goals as goal

pub returns-in_err-depth-clause-spot : goal.returns-in_err-depth-clause-spot
returns-in_err-depth-clause-spot c =
    let lens : Lens = shown c.camera.inside in
    let fits = c.ranges.ahead in
    let depth : between (floor c.args.ahead lens.unit) lens.near lens.far ≡ None = simp to_z-of_z at (sym c.in_err-depth.ensures.value) in
    c.from_residual.ensures ∙ sym (subst (λ (l : Lens). seen l (spot_of (Some c.args.column) (Some c.args.row) (between (floor c.args.ahead l.unit) l.near l.far)) ≡ None) c.camera.view_is (rw depth refl))

pub returns-clause-spot : goal.returns-clause-spot
returns-clause-spot c =
    let lens : Lens = shown c.camera.inside in
    let fits = c.ranges.ahead in
    let depth : between (floor c.args.ahead lens.unit) lens.near lens.far ≡ Some c.in_ok-depth.depth = simp to_z-of_z at (sym c.in_ok-depth.ensures.value) in
    sym (subst (λ (l : Lens). seen l (spot_of (Some c.args.column) (Some c.args.row) (between (floor c.args.ahead l.unit) l.near l.far)) ≡ Some record { pixel = c.args.row * c.camera.inside.width + c.args.column; depth = c.in_ok-depth.depth }) c.camera.view_is (rw depth refl))
