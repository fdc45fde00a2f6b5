use Rattle.std.proofs.Common.{ℕ, ◌+◌, ◌≡◌, [], length, take, drop, ap, sym, ◌∙◌, arith}
use Rattle.view_meaning.specs.Survey.{format_of, class_byte}
use Rattle.view_meaning.specs.Classes.{class_of, classes}
use Rattle.class_pages.proofs.Steps.{made_more, class_read, classes_run}
use Rattle.class_pages.proofs.Fitting.{fits_more}
use Rattle.class_pages.proofs.page.read_classes.Goals as goal

pub loop-i-preserved : goal.loop-i-preserved
loop-i-preserved c = record {
  made = made_more c.loop-i.i _ (λ k. class_of (format_of c.args.survey.now) (class_byte c.args.survey.now (c.args.first + k))) c.args.list.now c.loop-i.list c.class_of.result (omega arith)
      (omega (arith, c.loop-i.auto.list, c.loop-i-test.true))
      (class_read c.args.survey.now (c.args.first + c.loop-i.i) _ _ c.class_of.result _ c.header.ensures.fields.format c.class_place-place.ensures c.point_bytes.ensures.least c.point_bytes.ensures.bytes c.class_of.ensures.class)
      c.loop-i.invariant.made;
  fits = fits_more c.loop-i.i _ (format_of c.args.survey.now) _ c.class_of.result c.loop-i.list (omega arith)
      (omega (arith, c.loop-i.auto.list, c.loop-i-test.true)) c.header.ensures.fields.format c.class_of.ensures.top c.loop-i.invariant.fits;
}

pub returns-clause-classes : goal.returns-clause-classes
returns-clause-classes c =
    let last : c.loop-i.i ≡ length c.args.list.now = omega (arith, c.loop-i.auto.i-end, c.loop-i-test.false) in
    classes_run c.args.survey.now c.args.list.now c.loop-i.list c.args.first c.loop-i.i (sym last) (omega (arith, c.requires.within, last)) c.loop-i.invariant.made
    ∙ ap (λ (n : ℕ). take n (drop c.args.first (classes c.args.survey.now []))) last
