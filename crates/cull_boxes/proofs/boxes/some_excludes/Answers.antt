use Rattle.std.proofs.Common.{◌≤◌, ℕ, All, List, length, refl, sym, subst, take}
use Rattle.std.specs.List.{Any}
use Rattle.std.proofs.lemmas.List.{take_all}
use Rattle.std.proofs.lemmas.List.Elements.{All-more}
use Rattle.cull_boxes.specs.Outside.{Excludes}
use Rattle.cull_boxes.proofs.Corners.{untrue}
use Rattle.cull_boxes.proofs.boxes.some_excludes.Goals as goal

not_found : {S : Type 0} (P : S → Type 0) (hs : List S) (k : ℕ) → length hs ≤ k → All (λ h. ¬ P h) (take k hs) → ¬ Any P hs
not_found {S} P hs k all none = λ (some : Any P hs).
    let each : All (λ h. ¬ P h) hs = subst (λ (l : List S). All (λ h. ¬ P h) l) (take_all k hs all) none in
    each some.0 some.1 some.2 (subst P (sym some.3) some.4)

pub returns-then-excludes : goal.returns-then-excludes
returns-then-excludes g c = (
  (λ _. (c.loop-space.space-index, c.space-item.result, c.loop-space-test.true, sym c.space-item.is, c.excludes.ensures.0 c.if-excludes.true)),
  (λ _. refl),
)

pub loop-space-preserved : goal.loop-space-preserved
loop-space-preserved g c =
    All-more (λ s. ¬ Excludes (g.S.Cull.half_space s) c.args.area.now) c.args.spaces.now c.loop-space.space-index c.space-item.result c.loop-space-test.true c.loop-space.invariant
    (subst (λ s. ¬ Excludes (g.S.Cull.half_space s) c.args.area.now) c.space-item.is (untrue c.excludes.result _ c.excludes.ensures.1 c.if-excludes.false))

pub returns : goal.returns
returns g c = (
  (λ is. absurd (cc is)),
  (λ some. absurd (not_found (λ s. Excludes (g.S.Cull.half_space s) c.args.area.now) c.args.spaces.now c.loop-space.space-index c.loop-space-test.false c.loop-space.invariant some)),
)
