use Rattle.std.proofs.Common.{◌≡◌, ◌∙◌, ◌+◌, [], ◌∷◌, ◌++◌, length, length-append, ap, sym, subst, arith}
use Rattle.grid_blocks.specs.declared.block.Block.{Block}
use Rattle.std.specs.List.{Any}
use Rattle.cull_boxes.specs.Outside.{Excludes, IsOutside}
use Rattle.cull_boxes.proofs.Corners.{untrue}
use Rattle.cull_boxes.proofs.Keeping.{IsPicked, kept_all, picked_more, picked_none, picked_skip}
use Rattle.cull_boxes.proofs.kept_blocks.kept_by.Goals as goal
use Rattle.cull_boxes.proofs.kept_blocks.kept_by.Goals.{then-not-some_excludes, else-not-some_excludes}

pub push_within-requires : goal.push_within-requires
push_within-requires g c = omega (arith, c.loop-k.invariant.room, c.count-k-end.ensures.count, c.loop-k-test.true)

pub loop-k-init : goal.loop-k-init
loop-k-init g c =
    let P : Block → Type 0 = λ (block : Block). ¬ Any (λ s. Excludes (g.S.Cull.half_space s) block.area) c.args.spaces.now in
    let none : c.reserve.new.self.items ≡ [] = c.in_ok-reserve.ensures.same ∙ c.new-list.ensures in
    let long : length c.reserve.new.self.items ≡ 0 = ap length none in
    record {
      room = omega (arith, c.in_ok-reserve.ensures.room, c.count.ensures.count);
      few = omega (arith, long);
      picked = subst (IsPicked P c.args.blocks.now.blocks 0) (sym none) (picked_none P c.args.blocks.now.blocks);
    }

pub loop-k-preserved : goal.loop-k-preserved
loop-k-preserved g c =
    let P : Block → Type 0 = λ (block : Block). ¬ Any (λ s. Excludes (g.S.Cull.half_space s) block.area) c.args.spaces.now in
    elim c.if-not-some_excludes.branch [
      | then-not-some_excludes w ↦
          let is : c.if-not-some_excludes.list.items ≡ c.loop-k.list.items ++ c.loop-k.k ∷ [] = ap (λ l. l.items) w.list-is ∙ w.push_within.ensures.pushed in
          let long : length c.if-not-some_excludes.list.items ≡ length c.loop-k.list.items + 1 = ap length is ∙ length-append c.loop-k.list.items (c.loop-k.k ∷ []) in
          let spare : c.if-not-some_excludes.list.spare ≡ w.push_within.new.self.spare = ap (λ l. l.spare) w.list-is in
          record {
            room = omega (arith, c.loop-k.invariant.room, w.push_within.ensures.spare, spare);
            few = omega (arith, c.loop-k.invariant.few, long);
            picked = subst (IsPicked P c.args.blocks.now.blocks (c.loop-k.k + 1)) (sym is)
                (picked_more P c.args.blocks.now.blocks c.loop-k.k c.loop-k.list.items c.block.result.now c.loop-k.invariant.picked c.block.ensures.block
                (untrue c.some_excludes.result _ c.some_excludes.ensures.1 w.if-not-some_excludes.true));
          }
      | else-not-some_excludes w ↦
          let is : c.if-not-some_excludes.list.items ≡ c.loop-k.list.items = ap (λ l. l.items) w.list-is in
          let long : length c.if-not-some_excludes.list.items ≡ length c.loop-k.list.items = ap length is in
          let spare : c.if-not-some_excludes.list.spare ≡ c.loop-k.list.spare = ap (λ l. l.spare) w.list-is in
          record {
            room = omega (arith, c.loop-k.invariant.room, spare);
            few = omega (arith, c.loop-k.invariant.few, long);
            picked = subst (IsPicked P c.args.blocks.now.blocks (c.loop-k.k + 1)) (sym is)
                (picked_skip P c.args.blocks.now.blocks c.loop-k.k c.loop-k.list.items c.block.result.now c.loop-k.invariant.picked c.block.ensures.block
                (λ (not : P c.block.result.now). not (c.some_excludes.ensures.0 w.if-not-some_excludes.false)));
          }
    ]

pub returns-clause-kept : goal.returns-clause-kept
returns-clause-kept g c lens tells =
    let P : Block → Type 0 = λ (block : Block). ¬ Any (λ s. Excludes (g.S.Cull.half_space s) block.area) c.args.spaces.now in
    kept_all P lens c.args.blocks.now.blocks c.loop-k.k c.loop-k.list.items (omega (arith, c.count-k-end.ensures.count, c.loop-k-test.false, c.loop-k.auto.k-end))
    (λ (block : Block). (
      (λ (none : P block) (outside : IsOutside lens block.area). none ((tells block.area).1 outside)),
      (λ (not : ¬ IsOutside lens block.area) some. not ((tells block.area).0 some)),
    )) c.loop-k.invariant.picked
