use Rattle.std.proofs.Common.{◌≡◌, ◌≤◌, ◌+◌, ◌∙◌, ℕ, List, length, map, ap, sym, arith}
use Rattle.view_meaning.specs.Survey.{point_of, withheld_of}
use Rattle.grid_blocks.specs.Blocks.{members_of}
use Rattle.grid_blocks.proofs.Kept.{cut_within, copies_read, part_read, part_map}
use Rattle.grid_blocks.proofs.blocks.Blocks.records.Goals as goal

pub part-requires : goal.part-requires
part-requires c =
    let blocks : length c.self.inside.list.items ≡ length c.args.self.now.blocks = ap (λ v. length v.blocks) c.self.view_is in
    let within : c.at-block.result.now.first + c.at-block.result.now.count ≤ c.self.inside.records = cut_within c.self.inside.list.items c.self.inside.records c.args.k c.at-block.result.now c.self.invariant.0 (omega (arith, blocks, c.requires)) c.at-block.ensures in
    let here : length (members_of c.self.inside.records c.self.inside.copies) ≡ length c.in-Some.copies.numbers.items = ap (λ o. length (members_of c.self.inside.records o)) c.in-Some.is in
    let size : length (members_of c.self.inside.records c.self.inside.copies) ≡ c.self.inside.records = c.self.invariant.1 in
    omega (arith, within, here, size)

pub returns-in-Some-clause-numbers : goal.returns-in-Some-clause-numbers
returns-in-Some-clause-numbers c = λ block is.
    let members : c.in-Some.copies.numbers.items ≡ c.args.self.now.members = sym (ap (members_of c.self.inside.records) c.in-Some.is) ∙ ap (λ v. v.members) c.self.view_is in
    part_read c.self.inside.list.items c.args.self.now.blocks c.args.self.now.members c.in-Some.copies.numbers.items c.args.k c.at-block.result.now block c.part.result.numbers.now
    (ap (λ v. v.blocks) c.self.view_is) c.at-block.ensures is members c.part.ensures.numbers

pub returns-in-Some-clause-points : goal.returns-in-Some-clause-points
returns-in-Some-clause-points c = λ b are.
    let copied = copies_read b c.args.self.now.members c.self.inside.copies c.args.self.now.copies c.in-Some.copies c.self.inside.records c.in-Some.is (ap (λ v. v.copies) c.self.view_is) (ap (λ v. v.members) c.self.view_is) are.copies in
    c.part.ensures.points ∙ part_map (point_of b) c.in-Some.copies.numbers.items c.in-Some.copies.points.items c.at-block.result.now.first c.at-block.result.now.count copied.points ∙ ap (λ (l : List ℕ). map (point_of b) l) (sym c.part.ensures.numbers)

pub returns-in-Some-clause-withheld : goal.returns-in-Some-clause-withheld
returns-in-Some-clause-withheld c = λ b are.
    let copied = copies_read b c.args.self.now.members c.self.inside.copies c.args.self.now.copies c.in-Some.copies c.self.inside.records c.in-Some.is (ap (λ v. v.copies) c.self.view_is) (ap (λ v. v.members) c.self.view_is) are.copies in
    c.part.ensures.withheld ∙ part_map (withheld_of b) c.in-Some.copies.numbers.items c.in-Some.copies.withheld.items c.at-block.result.now.first c.at-block.result.now.count copied.withheld ∙ ap (λ (l : List ℕ). map (withheld_of b) l) (sym c.part.ensures.numbers)
