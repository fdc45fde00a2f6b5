use Rattle.std.proofs.Common.{◌≡◌, ◌%◌, sym, arith}
use Rattle.std.proofs.lemmas.Bool.Decides.{nat_tests}
use Rattle.view_words.specs.declared.row.Row.TheVariants.{Serve}
use Rattle.view_words.proofs.RowPlaces.{kind_at-read, kind_at-written, kind_at-past}
use Rattle.view_words.proofs.kind.serve_kind.Goals as goal

pub returns-in-4-to-35 : goal.returns-in-4-to-35
returns-in-4-to-35 c =
    let even : c.args.place % 2 ≡ 0 = grind (arith, nat_tests, c.if-place-eq0.true) in
    sym (kind_at-read c.args.place (omega (arith, c.in-4-to-35)) (omega (arith, c.in-4-to-35)) even)

pub returns-in-4-to-35-2 : goal.returns-in-4-to-35-2
returns-in-4-to-35-2 c =
    let odd : c.args.place % 2 ≡ 1 = grind (arith, nat_tests, c.if-place-eq0.false) in
    sym (kind_at-written c.args.place (omega (arith, c.in-4-to-35)) (omega (arith, c.in-4-to-35)) odd)

pub returns-in_default : goal.returns-in_default
returns-in_default c = sym (kind_at-past Serve c.args.place (omega (arith, c.in_default)))
