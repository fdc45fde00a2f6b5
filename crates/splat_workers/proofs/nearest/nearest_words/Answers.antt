use Rattle.std.proofs.Common.{◌≡◌, ◌≤◌, ◌<◌, ◌*◌, ◌-◌, ◌^◌, ℕ, length, ap, ◌∙◌, arith, rules, subst}
use Rattle.grid_blocks.proofs.Kept.{cut_few}
use Rattle.view_meaning.specs.Frame.{IsFrame}
use Rattle.view_meaning.specs.Picture.{View}
use Rattle.view_meaning.specs.Survey.{record_count}
use Rattle.view_meaning.proofs.Words.{frame_names}
use Rattle.splat_workers.proofs.Law.{words_of_pairs}
use Rattle.splat_workers.proofs.nearest.nearest_words.Goals as goal

pub new-requires-clause-blocks : goal.new-requires-clause-blocks
new-requires-clause-blocks g c =
    omega (arith, c.pieces.ensures.few, c.in_ok-kept.ensures.few, cut_few c.args.blocks.now.blocks (record_count c.args.survey.now) c.requires.blocks.cut, c.records.ensures.count)

drawn : goal.returns-in-Ok-clause-words
drawn g c =
    let b = c.args.survey.now in
    let cs = c.args.classes.now in
    let view : View = record { camera = c.view.inside.camera; colouring = c.view.inside.colouring; filter = c.view.inside.filter } in
    let kept = c.in_ok-kept.kept in
    let step = c.step_for.result in
    let root = c.in-Ok.root in
    let items = c.close.result in
    let frame = c.in_ok-frame.ensures.frame in
    let far : view.camera.far < 2 ^ 32 - 1 = omega (arith, c.width.ensures.deepest) in
    let few : record_count b ≤ 2 ^ 32 = omega (arith, c.records.ensures.count, c.records.ensures.small) in
    let size : length items ≡ view.camera.width * view.camera.height = c.close.ensures.pixels ∙ (frame.0 ∙ (ap (λ (n : ℕ). n * c.height.result) c.width.ensures.value ∙ ap (λ (n : ℕ). c.view.inside.camera.width * n) c.height.ensures.value)) in
    let ended : root.ends < c.in_ok-frame.frame.ends = omega (arith, c.in-Ok.ensures.ends, frame.2, c.requires.workers.0) in
    subst (λ (v : View). IsFrame b cs v items) c.view.view_is
    (words_of_pairs b cs view c.args.blocks.now kept root.claims items step root.plots far few c.requires.blocks c.in_ok-kept.ensures.in_view c.step_for.ensures.some
    (λ n lt. c.close.ensures.all ended n (omega (arith, lt, frame.1, c.pieces.ensures.count)))
    c.in-Ok.ensures.plots size c.close.ensures.least)

pub returns-in-Ok-clause-words : goal.returns-in-Ok-clause-words
returns-in-Ok-clause-words g c = drawn g c

pub returns-in-Ok-clause-nearest : goal.returns-in-Ok-clause-nearest
returns-in-Ok-clause-nearest g c =
    let b = c.args.survey.now in
    let view = c.args.view.now in
    let far : view.camera.far ≤ 2 ^ 32 - 2 = search (rules, c.width.ensures.deepest, c.view.view_is) in
    let few : record_count b ≤ 2 ^ 32 = omega (arith, c.records.ensures.count, c.records.ensures.small) in
    frame_names b c.args.classes.now view c.close.result (omega (arith, far)) few (drawn g c)
