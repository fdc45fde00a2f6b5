use Rattle.class_bits.proofs.Sets.{has-all_classes}
use Rattle.class_bits.proofs.class_set.ClassSet.all.Goals as goal

pub returns-clause-each : goal.returns-clause-each
returns-clause-each c = has-all_classes
