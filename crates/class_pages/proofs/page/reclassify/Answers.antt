use Rattle.std.proofs.Common.{ℕ, List, Bool, true, false, ◌≤◌, arith, ap, ◌≡◌, ◌∙◌, ◌+◌, get_or}
use Rattle.view_meaning.proofs.Reading.{point-from_part}
use Rattle.view_meaning.specs.Survey.{point_of}
use mir.Val.{bool_byte}
use Rattle.class_pages.proofs.Steps.{made_same, made_more, counted_same, counted_more, changed_counted}
use Rattle.class_pages.proofs.page.reclassify.Goals as goal

at_most_one : (count i step : ℕ) (b : Bool) → step ≡ bool_byte b → count ≤ i → count + step ≤ i + 1
at_most_one count i step true is le = omega (arith, is, le)
at_most_one count i step false is le = omega (arith, is, le)

pub loop-i-init : goal.loop-i-init
loop-i-init g c =
    let f = λ (k : ℕ). g.T.Chooser.picks c.args.chooser.now (point_of c.args.survey.now (c.args.first + k)) (get_or c.args.list.now k 0) in
    record {
      made = made_same c.args.start f c.args.list.now c.requires.before;
      count = counted_same c.args.start f c.args.list.now c.requires.before;
      small = omega arith;
    }

pub loop-i-preserved : goal.loop-i-preserved
loop-i-preserved g c =
    let b : List ℕ = c.args.survey.now in
    let f = λ (k : ℕ). g.T.Chooser.picks c.args.chooser.now (point_of c.args.survey.now (c.args.first + k)) (get_or c.args.list.now k 0) in
    let was : get_or c.loop-i.list c.loop-i.i 0 ≡ get_or c.args.list.now c.loop-i.i 0 = c.loop-i.invariant.made.left c.loop-i.i (omega arith) in
    let is : c.choose-after.result ≡ f c.loop-i.i =
    c.choose-after.ensures ∙ ap (g.T.Chooser.picks c.args.chooser.now c.xyz.result) was
    ∙ ap (λ p. g.T.Chooser.picks c.args.chooser.now p (get_or c.args.list.now c.loop-i.i 0)) (point-from_part b (c.args.first + c.loop-i.i) _ c.xyz.result c.point_bytes.ensures.least c.point_bytes.ensures.bytes c.xyz.ensures) in
    record {
      made = made_more c.loop-i.i (c.loop-i.i + 1) f c.args.list.now c.loop-i.list c.choose-after.result (omega arith)
          (omega (arith, c.loop-i.auto.list, c.loop-i-test.true)) is c.loop-i.invariant.made;
      count = counted_more c.loop-i.i (c.loop-i.i + 1) f c.args.list.now c.loop-i.count c.from-count.result c.choose-after.result (get_or c.loop-i.list c.loop-i.i 0)
          (omega arith) was is c.from-count.ensures c.loop-i.invariant.count;
      small = at_most_one c.loop-i.count c.loop-i.i c.from-count.result _ c.from-count.ensures c.loop-i.invariant.small;
    }

pub returns-clause-count : goal.returns-clause-count
returns-clause-count g c =
    changed_counted (λ (k : ℕ). g.T.Chooser.picks c.args.chooser.now (point_of c.args.survey.now (c.args.first + k)) (get_or c.args.list.now k 0)) c.args.list.now c.loop-i.list c.loop-i.i c.loop-i.count
    (omega (arith, c.requires.start, c.loop-i.auto.i-end, c.loop-i-test.false)) c.loop-i.invariant.made c.loop-i.invariant.count
