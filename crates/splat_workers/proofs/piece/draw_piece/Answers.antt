use Rattle.std.proofs.Common.{◌≡◌, ℕ, ◌-◌, ◌*◌, min, List, length, take, drop, ◌∙◌, ap, arith}
use Rattle.std.specs.List.{flat_map}
use Rattle.splat_workers.specs.Pairs.{block_pairs}
use Rattle.splat_workers.specs.Waiting.{plotting}
use Rattle.splat_workers.proofs.Plotting.{plotting-more}
use Rattle.splat_workers.proofs.Pieces.{pairs-piece, whole_piece}
use Rattle.splat_workers.proofs.piece.draw_piece.Goals as goal

pub overflow_mul-first : goal.overflow_mul-first
overflow_mul-first c = omega (arith, c.requires.piece, c.count-kept.ensures, c.count-kept.type_inv)

pub loop-place-preserved : goal.loop-place-preserved
loop-place-preserved c =
    let plan = c.args.plan.now in
    let place = c.loop-place.place in
    let pairs = block_pairs plan.survey.now plan.classes.now plan.camera.now plan.filter.now plan.blocks.now in
    record {
      drawn = plotting-more _ _ _ _ _ _ c.loop-place.invariant.drawn c.draw_block.ensures.drawn
          (pairs-piece pairs plan.kept.now (c.args.piece * plan.step) place _ c.loop-place.auto.place (omega (arith, c.loop-place-test.true, c.min-count.ensures, c.count-kept.ensures, c.requires.piece)) (ap pairs c.at.ensures));
      frame = c.draw_block.ensures.frame ∙ c.loop-place.invariant.frame;
      waits = c.draw_block.ensures.waits ∙ c.loop-place.invariant.waits;
    }

pub returns : goal.returns
returns c =
    let plan = c.args.plan.now in
    let first : ℕ = c.args.piece * plan.step in
    let pairs = block_pairs plan.survey.now plan.classes.now plan.camera.now plan.filter.now plan.blocks.now in
    let all : c.loop-place.place - first ≡ min plan.step (length plan.kept.now - first) =
    omega (arith, c.loop-place-test.false, c.loop-place.auto.place-end, c.min-count.ensures, c.count-kept.ensures) in
    c.flush.ensures.seat ∙ c.loop-place.invariant.drawn
    ∙ ap (λ (n : ℕ). plotting c.args.seat.now (flat_map pairs (take n (drop first plan.kept.now)))) all
    ∙ ap (λ (l : List ℕ). plotting c.args.seat.now (flat_map pairs l)) (whole_piece plan.kept.now plan.step first)
