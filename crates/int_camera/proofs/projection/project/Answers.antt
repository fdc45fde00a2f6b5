use Rattle.std.proofs.Common.{◌≡◌, ◌∙◌, ap, FitsSigned, w64, sym, subst, rules}
use Rattle.std.proofs.lemmas.Int.{to_z-of_z}
use Rattle.view_meaning.specs.Camera.{Lens, orthographic, perspective, spot, spot_by}
use Rattle.int_camera.specs.Limits.{projection_of}
use Rattle.int_camera.specs.Seen.{seen}
use Rattle.int_camera.proofs.Spots.{shown, spot-by}
use Rattle.int_camera.proofs.projection.project.Goals as goal

pub project_persp-requires-clause-kind : goal.project_persp-requires-clause-kind
project_persp-requires-clause-kind c = ap (λ (l : Lens). l.kind) (sym c.camera.view_is) ∙ ap projection_of c.in-Persp.is

pub returns-in-Ortho-clause-spot : goal.returns-in-Ortho-clause-spot
returns-in-Ortho-clause-spot c =
    let lens : Lens = shown c.camera.inside in
    let across_fits : FitsSigned w64 c.distance_along-across.result = search rules in
    let along_fits : FitsSigned w64 c.distance_along-along.result = search rules in
    let ahead_fits : FitsSigned w64 c.distance_along-ahead.result = search rules in
    let result : c.project_ortho.result ≡ seen c.args.camera.now (spot_by orthographic c.args.camera.now c.distance_along-across.result c.distance_along-along.result c.distance_along-ahead.result) = simp to_z-of_z at c.project_ortho.ensures.spot in
    result ∙ sym (subst (λ (l : Lens). seen l (spot l c.args.p) ≡ seen l (spot_by orthographic l c.distance_along-across.result c.distance_along-along.result c.distance_along-ahead.result)) c.camera.view_is (ap (seen lens) (spot-by lens c.args.p orthographic _ _ _ (ap projection_of c.in-Ortho.is) c.distance_along-across.ensures.value c.distance_along-along.ensures.value c.distance_along-ahead.ensures.value)))

pub returns-in-Persp-clause-spot : goal.returns-in-Persp-clause-spot
returns-in-Persp-clause-spot c =
    let lens : Lens = shown c.camera.inside in
    let across_fits : FitsSigned w64 c.distance_along-across.result = search rules in
    let along_fits : FitsSigned w64 c.distance_along-along.result = search rules in
    let ahead_fits : FitsSigned w64 c.distance_along-ahead.result = search rules in
    let result : c.project_persp.result ≡ seen c.args.camera.now (spot_by perspective c.args.camera.now c.distance_along-across.result c.distance_along-along.result c.distance_along-ahead.result) = simp to_z-of_z at c.project_persp.ensures.spot in
    result ∙ sym (subst (λ (l : Lens). seen l (spot l c.args.p) ≡ seen l (spot_by perspective l c.distance_along-across.result c.distance_along-along.result c.distance_along-ahead.result)) c.camera.view_is (ap (seen lens) (spot-by lens c.args.p perspective _ _ _ (ap projection_of c.in-Persp.is) c.distance_along-across.ensures.value c.distance_along-along.ensures.value c.distance_along-ahead.ensures.value)))
