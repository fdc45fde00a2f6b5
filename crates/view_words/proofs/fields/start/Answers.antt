use Rattle.std.proofs.Common.{ℕ, ◌∙◌, Option, IsSome, arith, sym, ap, subst}
use Rattle.std.specs.Prelude.{◌^◌, ◌-◌}
use Rattle.view_words.specs.CommandLine.{texts, number_within}
use Rattle.view_words.proofs.Lines.{length-texts, length-trial, number_within-start}
use Rattle.view_words.proofs.fields.start.Goals as goal

pub text_at-requires : goal.text_at-requires
text_at-requires c = omega (arith, length-trial (texts c.args.words.now) c.requires, length-texts c.args.words.now)

pub unwrap-requires : goal.unwrap-requires
unwrap-requires c =
    subst (λ (o : Option ℕ). IsSome o) (sym (c.number_within.ensures ∙ ap (number_within 0 (2 ^ 64 - 1)) c.text_at.ensures)) (number_within-start (texts c.args.words.now) c.requires)
