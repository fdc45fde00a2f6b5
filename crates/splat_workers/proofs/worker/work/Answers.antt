use Rattle.std.proofs.Common.{◌≡◌, ℕ, ◌+◌, ◌≤◌, ◌<◌, length, ap, subst, ◌∙◌, arith}
use Rattle.min_frame.specs.Meaning.{Seated}
use Rattle.min_frame.proofs.Claiming.{above_all, above_all-le, above_all-push}
use Rattle.splat_workers.proofs.Pieces.{piece_within}
use Rattle.splat_workers.proofs.worker.work.Goals as goal

pub draw_piece-requires-clause-piece : goal.draw_piece-requires-clause-piece
draw_piece-requires-clause-piece g c =
    let fits = c.requires.fits in
    piece_within (length c.args.plan.now.kept.now) c.args.plan.now.step c.in-Some.claimed fits.step (subst (λ (n : ℕ). c.in-Some.claimed < n) fits.numbers c.in-Some.ensures.below)

pub loop-claimed-smaller : goal.loop-claimed-smaller
loop-claimed-smaller g c =
    let claims = c.loop-claimed.worker.seat.claims in
    let n = c.in-Some.claimed in
    let before : above_all claims ≤ n = above_all-le claims n c.in-Some.ensures.above in
    let after : above_all c.draw_piece.new.seat.claims ≡ n + 1 =
    ap (λ (s : Seated). above_all s.claims) c.draw_piece.ensures ∙ ap (λ (s : Seated). above_all s.claims) c.in-Some.ensures.claimed ∙ above_all-push claims n c.in-Some.ensures.above in
    omega (arith, c.in-Some.ensures.below)
