use Rattle.edit_ops.proofs.ListReads.{class_list-classes_text}
use Rattle.edit_ops.proofs.writing.classes_text.Goals as goal

pub returns-clause-reads_back : goal.returns-clause-reads_back
returns-clause-reads_back c = λ words. class_list-classes_text c.args.set.now words c.requires
