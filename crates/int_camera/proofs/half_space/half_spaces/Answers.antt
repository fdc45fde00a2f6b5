use Rattle.std.proofs.Common.{◌≡◌, ◌∙◌, ◌↔◌, List, [], ◌∷◌, All, refl, sym, ap, subst}
use Rattle.view_meaning.specs.Camera.{Lens}
use Rattle.int_camera.specs.declared.half_space.HalfSpace.{HalfSpace}
use Rattle.int_camera.specs.Kept.{IsCamera}
use Rattle.int_camera.specs.HalfSpaces.{HasNormal, IsInView, Meets, from_first, half_spaces, to_last}
use Rattle.int_camera.proofs.InView.{in_view-half_spaces}
use Rattle.int_camera.proofs.Normals.{normals-half_spaces}
use Rattle.int_camera.proofs.half_space.half_spaces.Goals as goal

pub returns : goal.returns
returns c =
    let lens : Lens = c.args.camera.now in
    let kept : IsCamera lens = subst IsCamera c.camera.view_is c.camera.invariant.1 in
    let left : c.from_first.result ≡ from_first lens.kind lens lens.right lens.width = c.from_first.ensures ∙ ap (λ (l : Lens). from_first lens.kind lens l.right l.width) c.camera.view_is in
    let right : c.to_last.result ≡ to_last lens.kind lens lens.right lens.width = c.to_last.ensures ∙ ap (λ (l : Lens). to_last lens.kind lens l.right l.width) c.camera.view_is in
    let top : c.from_first-2.result ≡ from_first lens.kind lens lens.down lens.height = c.from_first-2.ensures ∙ ap (λ (l : Lens). from_first lens.kind lens l.down l.height) c.camera.view_is in
    let bottom : c.to_last-2.result ≡ to_last lens.kind lens lens.down lens.height = c.to_last-2.ensures ∙ ap (λ (l : Lens). to_last lens.kind lens l.down l.height) c.camera.view_is in
    let list : c.from_first.result ∷ c.to_last.result ∷ c.from_first-2.result ∷ c.to_last-2.result ∷ c.from_near.result ∷ c.to_far.result ∷ [] ≡ half_spaces lens = rw (left, right, top, bottom, c.from_near.ensures, c.to_far.ensures) refl in
    record {
      list = list;
      in_view = λ p. subst (λ (hs : List HalfSpace). IsInView lens p ↔ All (λ (h : HalfSpace). Meets h p) hs) (sym list) (in_view-half_spaces lens kept p);
      normals = subst (λ (hs : List HalfSpace). All HasNormal hs) (sym list) (normals-half_spaces lens kept);
    }
