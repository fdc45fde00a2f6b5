use Rattle.std.proofs.Common.{◌≡◌, ◌∙◌, ◌/◌, Some, None, ap, sym, subst}
use Rattle.std.proofs.lemmas.Int.{to_z-of_z}
use Rattle.view_meaning.specs.Camera.{Lens, floor, from_edge, between, spot_at, spot_of}
use Rattle.int_camera.specs.Seen.{seen}
use Rattle.int_camera.proofs.Spots.{shown, seen-no_column, seen-no_row, seen-placed}
use Rattle.int_camera.proofs.projection.project_ortho.Goals as goal

pub returns-in_err-column-clause-spot : goal.returns-in_err-column-clause-spot
returns-in_err-column-clause-spot c =
    let lens : Lens = shown c.camera.inside in
    let fits = c.ranges.across in
    let column : from_edge (floor c.args.across lens.scale) lens.width ≡ None = simp to_z-of_z at c.in_err-column.ensures.beside in
    c.from_residual.ensures ∙ sym (subst (λ (l : Lens). seen l (spot_at l (floor c.args.across l.scale) (floor c.args.along l.scale) c.args.ahead) ≡ None) c.camera.view_is (seen-no_column lens _ (floor c.args.along lens.scale) c.args.ahead column))

pub returns-in_err-row-clause-spot : goal.returns-in_err-row-clause-spot
returns-in_err-row-clause-spot c =
    let lens : Lens = shown c.camera.inside in
    let fits = c.ranges.across in
    let fits_along = c.ranges.along in
    let column : from_edge (floor c.args.across lens.scale) lens.width ≡ Some (c.in_ok-column.column / lens.scale) = simp to_z-of_z at c.in_ok-column.ensures.inside in
    let row : from_edge (floor c.args.along lens.scale) lens.height ≡ None = simp to_z-of_z at c.in_err-row.ensures.beside in
    c.from_residual-in_err-row.ensures ∙ sym (subst (λ (l : Lens). seen l (spot_at l (floor c.args.across l.scale) (floor c.args.along l.scale) c.args.ahead) ≡ None) c.camera.view_is (seen-no_row lens _ _ c.args.ahead _ column row))

pub returns-clause-spot : goal.returns-clause-spot
returns-clause-spot c =
    let lens : Lens = shown c.camera.inside in
    let fits = c.ranges.across in
    let fits_along = c.ranges.along in
    let fits_ahead = c.ranges.ahead in
    let column_in : from_edge (floor c.args.across lens.scale) lens.width ≡ Some (c.in_ok-column.column / lens.scale) = simp to_z-of_z at c.in_ok-column.ensures.inside in
    let column : from_edge (floor c.args.across lens.scale) lens.width ≡ Some c.place-column.result = column_in ∙ ap Some (sym c.place-column.ensures.value) in
    let row_in : from_edge (floor c.args.along lens.scale) lens.height ≡ Some (c.in_ok-row.row / lens.scale) = simp to_z-of_z at c.in_ok-row.ensures.inside in
    let row : from_edge (floor c.args.along lens.scale) lens.height ≡ Some c.place-row.result = row_in ∙ ap Some (sym c.place-row.ensures.value) in
    let placed : c.spot_at.result ≡ seen c.args.camera.now (spot_of (Some c.place-column.result) (Some c.place-row.result) (between (floor c.args.ahead c.args.camera.now.unit) c.args.camera.now.near c.args.camera.now.far)) = simp to_z-of_z at c.spot_at.ensures.spot in
    placed ∙ sym (subst (λ (l : Lens). seen l (spot_at l (floor c.args.across l.scale) (floor c.args.along l.scale) c.args.ahead) ≡ seen l (spot_of (Some c.place-column.result) (Some c.place-row.result) (between (floor c.args.ahead l.unit) l.near l.far))) c.camera.view_is (seen-placed lens _ _ c.args.ahead c.place-column.result c.place-row.result column row))
