use Rattle.class_bits.proofs.Sets.{has-no_classes}
use Rattle.class_bits.proofs.class_set.ClassSet.empty.Goals as goal

pub returns-clause-none : goal.returns-clause-none
returns-clause-none c = has-no_classes
