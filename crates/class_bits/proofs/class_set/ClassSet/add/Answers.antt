use Rattle.std.proofs.Common.{arith}
use Rattle.class_bits.proofs.Sets.{has-set_or, IsClassSet-set_or}
use Rattle.class_bits.proofs.class_set.ClassSet.add.Goals as goal

pub invariant_of-self : goal.invariant_of-self
invariant_of-self c = IsClassSet-set_or c.self.inside.words c.args.class c.self.invariant (omega arith)

pub returns-clause-words : goal.returns-clause-words
returns-clause-words c = IsClassSet-set_or c.self.inside.words c.args.class c.self.invariant (omega arith)

pub returns-clause-added : goal.returns-clause-added
returns-clause-added c d below = rw (← c.self.view_is) (has-set_or c.self.inside.words c.args.class d c.self.invariant.four (omega arith))
