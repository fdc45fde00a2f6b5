use Rattle.std.proofs.Common.{◌≡◌, ◌*◌, ◌∙◌, ℕ, ap, arith}
use Rattle.ppm_out.proofs.Lengths.{length-ppm_header}
use Rattle.ppm_out.proofs.ppm_length.Goals as goal

pub returns : goal.returns
returns c =
    let across : c.from.result ≡ c.args.width = c.from.ensures in
    let down : c.from-2.result ≡ c.args.height = c.from-2.ensures in
    let pixels : 3 * c.from.result * c.from-2.result ≡ 3 * (c.args.width * c.args.height) =
    ap (λ (k : ℕ). 3 * k * c.from-2.result) across ∙ ap (λ (k : ℕ). 3 * c.args.width * k) down ∙ grind arith in
    omega (arith, pixels, c.digits.ensures.count, c.digits-2.ensures.count, length-ppm_header c.args.width c.args.height)
