use Rattle.std.proofs.Common.{rules, ℕ, List, ◌++◌, ◌∙◌, ap, arith}
use Rattle.std.specs.List.{range_with_len, flat_map}
use Rattle.survey_make.specs.Made.{made, made_record}
use Rattle.survey_make.proofs.Laid.{laid-made}
use Rattle.survey_make.proofs.making.make.Goals as goal

pub returns-clause-bytes : goal.returns-clause-bytes
unfolding made
returns-clause-bytes c = c.append_records.ensures.appended ∙ ap (λ (xs : List ℕ). xs ++ flat_map (made_record c.args.start c.args.format) (range_with_len 0 c.args.records)) (search rules)

pub returns-in_err-reserve-clause-laid : goal.returns-in_err-reserve-clause-laid
returns-in_err-reserve-clause-laid c = laid-made c.args.start c.args.records c.args.format c.requires.format (omega (arith, c.requires.few))

pub returns-clause-laid : goal.returns-clause-laid
returns-clause-laid c = laid-made c.args.start c.args.records c.args.format c.requires.format (omega (arith, c.requires.few))
