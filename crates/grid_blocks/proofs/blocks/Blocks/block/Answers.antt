use Rattle.std.proofs.Common.{◌≡◌, ◌≤◌, ◌+◌, length, ap, arith}
use Rattle.grid_blocks.specs.Blocks.{members_of}
use Rattle.grid_blocks.proofs.Kept.{cut_within, cut_sizes}
use Rattle.grid_blocks.proofs.blocks.Blocks.block.Goals as goal

pub returns-clause-within : goal.returns-clause-within
returns-clause-within c =
    let blocks : length c.self.inside.list.items ≡ length c.args.self.now.blocks = ap (λ v. length v.blocks) c.self.view_is in
    let within : c.at.result.now.first + c.at.result.now.count ≤ c.self.inside.records = cut_within c.self.inside.list.items c.self.inside.records c.args.k c.at.result.now c.self.invariant.0 (omega (arith, blocks, c.requires)) c.at.ensures in
    let members : length (members_of c.self.inside.records c.self.inside.copies) ≡ length c.args.self.now.members = ap (λ v. length v.members) c.self.view_is in
    let size : length (members_of c.self.inside.records c.self.inside.copies) ≡ c.self.inside.records = c.self.invariant.1 in
    omega (arith, within, members, size)

pub returns-clause-some : goal.returns-clause-some
returns-clause-some c =
    let blocks : length c.self.inside.list.items ≡ length c.args.self.now.blocks = ap (λ v. length v.blocks) c.self.view_is in
    (cut_sizes c.self.inside.list.items c.self.inside.records c.args.k c.at.result.now c.self.invariant.0 (omega (arith, blocks, c.requires)) c.at.ensures).0

pub returns-clause-few : goal.returns-clause-few
returns-clause-few c =
    let blocks : length c.self.inside.list.items ≡ length c.args.self.now.blocks = ap (λ v. length v.blocks) c.self.view_is in
    (cut_sizes c.self.inside.list.items c.self.inside.records c.args.k c.at.result.now c.self.invariant.0 (omega (arith, blocks, c.requires)) c.at.ensures).1

pub returns-clause-small : goal.returns-clause-small
returns-clause-small c =
    let members : length (members_of c.self.inside.records c.self.inside.copies) ≡ length c.args.self.now.members = ap (λ v. length v.members) c.self.view_is in
    let size : length (members_of c.self.inside.records c.self.inside.copies) ≡ c.self.inside.records = c.self.invariant.1 in
    omega (arith, members, size, c.self.invariant.2)
