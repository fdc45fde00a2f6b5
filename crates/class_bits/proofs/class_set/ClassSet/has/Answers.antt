use Rattle.std.proofs.Common.{sym}
use Rattle.std.proofs.lemmas.Nat.Bits.{shr_and_one}
use Rattle.class_bits.proofs.Sets.{has-bit}
use Rattle.class_bits.proofs.class_set.ClassSet.has.Goals as goal

pub returns : goal.returns
returns c = rw (shr_and_one, ← c.self.view_is) (sym (has-bit c.self.inside.words c.args.class))
