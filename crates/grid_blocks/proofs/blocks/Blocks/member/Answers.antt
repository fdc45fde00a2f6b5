use Rattle.std.proofs.Common.{ap}
use Rattle.grid_blocks.proofs.Kept.{member_is_place}
use Rattle.grid_blocks.proofs.blocks.Blocks.member.Goals as goal

pub returns-in-None : goal.returns-in-None
returns-in-None c = member_is_place c.self.inside.records c.args.place c.self.inside.copies c.args.self.now.members c.in-None.is (ap (λ v. v.members) c.self.view_is) c.requires
