use Rattle.std.proofs.Common.{◌≡◌, ◌≤◌, length, ap, arith}
use Rattle.grid_blocks.specs.Blocks.{members_of}
use Rattle.grid_blocks.proofs.Kept.{cut_few}
use Rattle.grid_blocks.proofs.blocks.Blocks.count.Goals as goal

pub overflow_cast-result : goal.overflow_cast-result
overflow_cast-result c =
    let few : length c.self.inside.list.items ≤ c.self.inside.records = cut_few _ _ c.self.invariant.0 in
    omega (arith, few, c.self.invariant.2, c.len.ensures)

pub returns-clause-few : goal.returns-clause-few
returns-clause-few c =
    let few : length c.self.inside.list.items ≤ c.self.inside.records = cut_few _ _ c.self.invariant.0 in
    let blocks : length c.self.inside.list.items ≡ length c.args.self.now.blocks = ap (λ v. length v.blocks) c.self.view_is in
    let members : length (members_of c.self.inside.records c.self.inside.copies) ≡ length c.args.self.now.members = ap (λ v. length v.members) c.self.view_is in
    let size : length (members_of c.self.inside.records c.self.inside.copies) ≡ c.self.inside.records = c.self.invariant.1 in
    omega (arith, few, blocks, members, size)
