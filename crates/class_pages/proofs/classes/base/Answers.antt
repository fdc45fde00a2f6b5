use Rattle.std.proofs.Common.{◌≡◌, [], ◌+◌, ◌*◌, length, ap, sym, subst, ◌∙◌, arith}
use Rattle.std.specs.Arc.{arc_value}
use Rattle.view_meaning.specs.Classes.{classes}
use Rattle.view_meaning.specs.Survey.{format_of}
use Rattle.class_pages.specs.Fitting.{EachFits}
use Rattle.class_pages.specs.Pages.{page_of, page_count}
use Rattle.class_pages.proofs.Fitting.{length-classes, fits_page, fits_all, fits-bytes}
use Rattle.class_pages.proofs.Pages.{take-left, built_more, built_is, built_all}
use Rattle.class_pages.proofs.classes.base.Goals as goal

pub loop-k-preserved : goal.loop-k-preserved
loop-k-preserved c =
    let cs = classes c.args.survey.now [] in
    let size : length cs ≡ c.records-records.result = length-classes c.args.survey.now [] ∙ sym c.records-records.ensures.count in
    let is : arc_value c.in_ok-page_read.field-0 ≡ page_of cs c.loop-k.k = c.in_ok-page_read.ensures.classes ∙ take-left cs c.loop-k.k c.records-records.result c.min-left.result size c.min-left.ensures in
    record {
      built = rw c.in_ok-push.ensures.items (built_more arc_value cs c.loop-k.k (c.loop-k.k + 1) c.loop-k.pages.items c.in_ok-page_read.field-0 (omega arith) is c.loop-k.invariant.built);
      fits = fits_page c.loop-k.k (c.loop-k.k + 1) (format_of c.args.survey.now) cs (arc_value c.in_ok-page_read.field-0) (omega arith) is c.in_ok-page_read.ensures.top c.loop-k.invariant.fits;
    }

pub invariant_of-result : goal.invariant_of-result
invariant_of-result c =
    let size : length (classes c.args.survey.now []) ≡ c.records-records.result = length-classes c.args.survey.now [] ∙ sym c.records-records.ensures.count in
    let last : c.loop-k.k ≡ page_count c.records-records.result = omega (arith, c.loop-k.auto.k-end, c.loop-k-test.false, c.div_ceil-count.ensures) in
    built_all arc_value (classes c.args.survey.now []) c.loop-k.k c.records-records.result c.loop-k.pages.items last size (omega (arith, c.records-records.ensures.small))
    (fits-bytes (format_of c.args.survey.now) (classes c.args.survey.now []) (fits_all (c.loop-k.k * 4096) (format_of c.args.survey.now) (classes c.args.survey.now []) (omega (arith, size, last)) c.loop-k.invariant.fits))
    c.loop-k.invariant.built

pub returns-clause-classes : goal.returns-clause-classes
returns-clause-classes c =
    let size : length (classes c.args.survey.now []) ≡ c.records-records.result = length-classes c.args.survey.now [] ∙ sym c.records-records.ensures.count in
    let last : c.loop-k.k ≡ page_count c.records-records.result = omega (arith, c.loop-k.auto.k-end, c.loop-k-test.false, c.div_ceil-count.ensures) in
    built_is arc_value (classes c.args.survey.now []) c.loop-k.k c.loop-k.pages.items (last ∙ ap page_count (sym size)) c.loop-k.invariant.built

pub returns-clause-size : goal.returns-clause-size
returns-clause-size c =
    let size : length (classes c.args.survey.now []) ≡ c.records-records.result = length-classes c.args.survey.now [] ∙ sym c.records-records.ensures.count in
    let last : c.loop-k.k ≡ page_count c.records-records.result = omega (arith, c.loop-k.auto.k-end, c.loop-k-test.false, c.div_ceil-count.ensures) in
    ap length (built_is arc_value (classes c.args.survey.now []) c.loop-k.k c.loop-k.pages.items (last ∙ ap page_count (sym size)) c.loop-k.invariant.built) ∙ length-classes c.args.survey.now []

pub returns-clause-top : goal.returns-clause-top
returns-clause-top c =
    let size : length (classes c.args.survey.now []) ≡ c.records-records.result = length-classes c.args.survey.now [] ∙ sym c.records-records.ensures.count in
    let last : c.loop-k.k ≡ page_count c.records-records.result = omega (arith, c.loop-k.auto.k-end, c.loop-k-test.false, c.div_ceil-count.ensures) in
    subst (EachFits (format_of c.args.survey.now)) (sym (built_is arc_value (classes c.args.survey.now []) c.loop-k.k c.loop-k.pages.items (last ∙ ap page_count (sym size)) c.loop-k.invariant.built))
    (fits_all (c.loop-k.k * 4096) (format_of c.args.survey.now) (classes c.args.survey.now []) (omega (arith, size, last)) c.loop-k.invariant.fits)
