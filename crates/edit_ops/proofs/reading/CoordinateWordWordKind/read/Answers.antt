use Rattle.std.proofs.Common.{sym, ◌∙◌, FitsSigned, rules}
use Rattle.std.proofs.lemmas.Int.{to_z-of_z}
use Rattle.std.specs.Int.{w128}
use Rattle.edit_ops.proofs.Coordinates.{coordinate-none, coordinate-number, in_32_bits-converted}
use Rattle.edit_ops.proofs.reading.CoordinateWordWordKind.read.Goals as goal

pub returns-in_err-read_number-clause-value : goal.returns-in_err-read_number-clause-value
returns-in_err-read_number-clause-value c =
    c.from_residual.ensures ∙ sym (coordinate-none c.args.word.now (sym c.read_number.ensures ∙ c.in_err-read_number.was))

pub returns-clause-value : goal.returns-clause-value
returns-clause-value c =
    let z = c.in_ok-read_number.field-0 in
    let fits : FitsSigned w128 z = search rules in
    c.ok.ensures.value ∙ in_32_bits-converted z c.try_from.result (rw to_z-of_z at c.try_from.ensures) ∙ sym (coordinate-number c.args.word.now z (sym c.read_number.ensures ∙ c.in_ok-read_number.was))
