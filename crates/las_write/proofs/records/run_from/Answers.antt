use Rattle.std.proofs.Common.{◌≡◌, ◌/◌, ◌%◌, ◌∙◌, length, arith}
use Rattle.class_pages.specs.Pages.{page_of}
use Rattle.las_write.proofs.PageRuns.{page_reaches, run_on_page}
use Rattle.las_write.proofs.records.run_from.Goals as goal

pub overflow_sub-page : goal.overflow_sub-page
overflow_sub-page c =
    let reaches = page_reaches c.args.classes.now c.as_slice-page.result.now c.args.first (c.as_slice-page.ensures ∙ c.deref.ensures ∙ c.page.ensures) c.requires.inside in
    omega (arith, reaches)

pub slice_bounds-result-end : goal.slice_bounds-result-end
slice_bounds-result-end c =
    let reaches = page_reaches c.args.classes.now c.as_slice-page.result.now c.args.first (c.as_slice-page.ensures ∙ c.deref.ensures ∙ c.page.ensures) c.requires.inside in
    omega (arith, reaches, c.min-count.ensures)

pub returns-clause-run : goal.returns-clause-run
returns-clause-run c = (run_on_page c.args.classes.now c.as_slice-page.result.now c.args.first c.args.most c.min-count.result (c.as_slice-page.ensures ∙ c.deref.ensures ∙ c.page.ensures) c.requires.inside c.requires.some c.min-count.ensures).cut

pub returns-clause-some : goal.returns-clause-some
returns-clause-some c = (run_on_page c.args.classes.now c.as_slice-page.result.now c.args.first c.args.most c.min-count.result (c.as_slice-page.ensures ∙ c.deref.ensures ∙ c.page.ensures) c.requires.inside c.requires.some c.min-count.ensures).some

pub returns-clause-within : goal.returns-clause-within
returns-clause-within c = (run_on_page c.args.classes.now c.as_slice-page.result.now c.args.first c.args.most c.min-count.result (c.as_slice-page.ensures ∙ c.deref.ensures ∙ c.page.ensures) c.requires.inside c.requires.some c.min-count.ensures).within
