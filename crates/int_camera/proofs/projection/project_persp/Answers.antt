use Rattle.std.proofs.Common.{◌≡◌, ◌∙◌, ◌/◌, pos, ◌*ℤ◌, ◌<ℤ◌, ◌≤ℤ◌, nat_abs, ap, Some, None, sym, subst, arith}
use Rattle.std.proofs.lemmas.Int.{ints, to_z-of_z}
use Rattle.view_meaning.specs.Camera.{Lens, floor, from_edge, between, spot_at, spot_of}
use Rattle.int_camera.specs.Seen.{seen}
use Rattle.int_camera.proofs.Spots.{shown, scale_small, seen-no_column, seen-no_row, seen-placed, perspective_spot-behind, perspective_spot-ahead}
use Rattle.int_camera.proofs.projection.project_persp.Goals as goal

pub returns-then-ahead-le0-clause-spot : goal.returns-then-ahead-le0-clause-spot
returns-then-ahead-le0-clause-spot c =
    let fits = c.ranges.ahead in
    let behind : c.args.ahead ≤ℤ pos 0 = grind (arith, ints, to_z-of_z, c.if-ahead-le0.true) in
    sym (ap (seen c.args.camera.now) (perspective_spot-behind c.args.camera.now c.args.across c.args.along c.args.ahead behind))

pub magnified_offset-requires-clause-scale : goal.magnified_offset-requires-clause-scale
magnified_offset-requires-clause-scale c =
    (c.camera.invariant.1.scale.0, scale_small _ c.camera.inside.scale (ap (λ (l : Lens). l.kind) c.camera.view_is ∙ c.requires.kind) c.camera.invariant.1.scale.1)

pub magnified_offset-requires-2-clause-scale : goal.magnified_offset-requires-2-clause-scale
magnified_offset-requires-2-clause-scale c =
    (c.camera.invariant.1.scale.0, scale_small _ c.camera.inside.scale (ap (λ (l : Lens). l.kind) c.camera.view_is ∙ c.requires.kind) c.camera.invariant.1.scale.1)

pub returns-in_err-column-clause-spot : goal.returns-in_err-column-clause-spot
returns-in_err-column-clause-spot c =
    let lens : Lens = shown c.camera.inside in
    let fits = c.ranges.across in
    let fits_along = c.ranges.along in
    let fits_ahead = c.ranges.ahead in
    let front : pos 0 <ℤ c.args.ahead = grind (arith, ints, to_z-of_z, c.if-ahead-le0.false) in
    let is = ap (seen c.args.camera.now) (perspective_spot-ahead c.args.camera.now c.args.across c.args.along c.args.ahead front) in
    let column : from_edge (floor (c.args.across *ℤ pos lens.scale) (nat_abs c.args.ahead)) lens.width ≡ None = simp to_z-of_z at c.in_err-column.ensures.beside in
    c.from_residual.ensures ∙ sym (is ∙ subst (λ (l : Lens). seen l (spot_at l (floor (c.args.across *ℤ pos l.scale) (nat_abs c.args.ahead)) (floor (c.args.along *ℤ pos l.scale) (nat_abs c.args.ahead)) c.args.ahead) ≡ None) c.camera.view_is (seen-no_column lens _ (floor (c.args.along *ℤ pos lens.scale) (nat_abs c.args.ahead)) c.args.ahead column))

pub returns-in_err-row-clause-spot : goal.returns-in_err-row-clause-spot
returns-in_err-row-clause-spot c =
    let lens : Lens = shown c.camera.inside in
    let fits = c.ranges.across in
    let fits_along = c.ranges.along in
    let fits_ahead = c.ranges.ahead in
    let front : pos 0 <ℤ c.args.ahead = grind (arith, ints, to_z-of_z, c.if-ahead-le0.false) in
    let is = ap (seen c.args.camera.now) (perspective_spot-ahead c.args.camera.now c.args.across c.args.along c.args.ahead front) in
    let column : from_edge (floor (c.args.across *ℤ pos lens.scale) (nat_abs c.args.ahead)) lens.width ≡ Some (c.in_ok-column.column / nat_abs c.args.ahead) = simp to_z-of_z at c.in_ok-column.ensures.inside in
    let row : from_edge (floor (c.args.along *ℤ pos lens.scale) (nat_abs c.args.ahead)) lens.height ≡ None = simp to_z-of_z at c.in_err-row.ensures.beside in
    c.from_residual-in_err-row.ensures ∙ sym (is ∙ subst (λ (l : Lens). seen l (spot_at l (floor (c.args.across *ℤ pos l.scale) (nat_abs c.args.ahead)) (floor (c.args.along *ℤ pos l.scale) (nat_abs c.args.ahead)) c.args.ahead) ≡ None) c.camera.view_is (seen-no_row lens _ _ c.args.ahead _ column row))

pub returns-clause-spot : goal.returns-clause-spot
returns-clause-spot c =
    let lens : Lens = shown c.camera.inside in
    let fits = c.ranges.across in
    let fits_along = c.ranges.along in
    let fits_ahead = c.ranges.ahead in
    let front : pos 0 <ℤ c.args.ahead = grind (arith, ints, to_z-of_z, c.if-ahead-le0.false) in
    let is = ap (seen c.args.camera.now) (perspective_spot-ahead c.args.camera.now c.args.across c.args.along c.args.ahead front) in
    let column_in : from_edge (floor (c.args.across *ℤ pos lens.scale) (nat_abs c.args.ahead)) lens.width ≡ Some (c.in_ok-column.column / nat_abs c.args.ahead) = simp to_z-of_z at c.in_ok-column.ensures.inside in
    let column_is : c.place-column.result ≡ c.in_ok-column.column / nat_abs c.args.ahead = simp to_z-of_z at c.place-column.ensures.value in
    let column : from_edge (floor (c.args.across *ℤ pos lens.scale) (nat_abs c.args.ahead)) lens.width ≡ Some c.place-column.result = column_in ∙ ap Some (sym column_is) in
    let row_in : from_edge (floor (c.args.along *ℤ pos lens.scale) (nat_abs c.args.ahead)) lens.height ≡ Some (c.in_ok-row.row / nat_abs c.args.ahead) = simp to_z-of_z at c.in_ok-row.ensures.inside in
    let row_is : c.place-row.result ≡ c.in_ok-row.row / nat_abs c.args.ahead = simp to_z-of_z at c.place-row.ensures.value in
    let row : from_edge (floor (c.args.along *ℤ pos lens.scale) (nat_abs c.args.ahead)) lens.height ≡ Some c.place-row.result = row_in ∙ ap Some (sym row_is) in
    let placed : c.spot_at.result ≡ seen c.args.camera.now (spot_of (Some c.place-column.result) (Some c.place-row.result) (between (floor c.args.ahead c.args.camera.now.unit) c.args.camera.now.near c.args.camera.now.far)) = simp to_z-of_z at c.spot_at.ensures.spot in
    placed ∙ sym (is ∙ subst (λ (l : Lens). seen l (spot_at l (floor (c.args.across *ℤ pos l.scale) (nat_abs c.args.ahead)) (floor (c.args.along *ℤ pos l.scale) (nat_abs c.args.ahead)) c.args.ahead) ≡ seen l (spot_of (Some c.place-column.result) (Some c.place-row.result) (between (floor c.args.ahead l.unit) l.near l.far))) c.camera.view_is (seen-placed lens _ _ c.args.ahead c.place-column.result c.place-row.result column row))
