use Rattle.std.proofs.Common.{◌∙◌, sym, arith}
use Rattle.sessions.proofs.Counted.{passes_all, passes_by_class, passes_shown}
use Rattle.sessions.proofs.filtering.count_run.Goals as goal

pub returns-then-hides_withheld-clause-counted : goal.returns-then-hides_withheld-clause-counted
returns-then-hides_withheld-clause-counted c =
    λ all is. passes_shown c.args.survey.now all c.args.run.now c.args.filter.now c.args.first c.count_shown.result (sym c.hides_withheld.ensures ∙ c.if-hides_withheld.true) is c.count_shown.ensures.counted

pub returns-then-has_all-clause-counted : goal.returns-then-has_all-clause-counted
returns-then-has_all-clause-counted c =
    λ all is. passes_all c.args.survey.now all c.args.run.now c.args.filter.now c.args.first (sym c.hides_withheld.ensures ∙ c.if-hides_withheld.false) (c.has_all.ensures c.if-has_all.true) (λ k. let fits = c.type_inv.run k in omega (arith, fits)) is

pub returns-clause-counted : goal.returns-clause-counted
returns-clause-counted c =
    λ all is. passes_by_class c.args.survey.now all c.args.run.now c.args.filter.now c.args.first c.count_classes.result (sym c.hides_withheld.ensures ∙ c.if-hides_withheld.false) is c.count_classes.ensures.counted
