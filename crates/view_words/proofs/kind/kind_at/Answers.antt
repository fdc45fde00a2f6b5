use Rattle.std.proofs.Common.{◌∙◌, ap, sym, arith}
use Rattle.view_words.specs.CommandLine.{kind_at}
use Rattle.view_words.proofs.RowPlaces.{kind_at-viewed}
use Rattle.view_words.proofs.kind.kind_at.Goals as goal

pub returns-in-4-to-25 : goal.returns-in-4-to-25
returns-in-4-to-25 c =
    sym (kind_at-viewed c.args.place (omega (arith, c.in-4-to-25)) (omega (arith, c.in-4-to-25))) ∙ ap (λ row. kind_at row c.args.place) (sym c.in-Draw.is)
