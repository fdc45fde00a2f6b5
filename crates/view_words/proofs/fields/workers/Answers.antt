use Rattle.std.proofs.Common.{ℕ, ◌∙◌, Option, IsSome, arith, sym, ap, subst}
use Rattle.view_base.specs.Fitting.{word_at}
use Rattle.view_words.specs.CommandLine.{texts, number_within}
use Rattle.view_words.proofs.Lines.{length-texts, workers_within, number_within-workers}
use Rattle.view_words.proofs.fields.workers.Goals as goal

pub text_at-requires : goal.text_at-requires
text_at-requires c = omega (arith, c.workers_place.ensures, workers_within c.args.row (texts c.args.words.now) c.requires.has c.requires.line, length-texts c.args.words.now)

pub unwrap-requires : goal.unwrap-requires
unwrap-requires c =
    let word = c.text_at.ensures ∙ ap (word_at (texts c.args.words.now)) c.workers_place.ensures in
    subst (λ (o : Option ℕ). IsSome o) (sym (c.number_within.ensures ∙ ap (number_within 1 64) word)) (number_within-workers c.args.row (texts c.args.words.now) c.requires.has c.requires.line)
