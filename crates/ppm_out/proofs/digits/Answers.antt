use Rattle.std.proofs.Common.{◌≡◌, ◌≤◌, ap, arith, length, decimal}
use Rattle.std.proofs.lemmas.Fmt.{length-decimal-le}
use Rattle.ppm_out.proofs.digits.Goals as goal

pub returns-clause-few : goal.returns-clause-few
returns-clause-few c =
    let same : length c.format.result.now ≡ length (decimal c.args.number) = ap length c.format.ensures.text in
    let four : length (decimal c.args.number) ≤ 4 = length-decimal-le 4 c.args.number (omega arith) (omega (arith, c.requires)) (omega arith) in
    omega (arith, same, four)
