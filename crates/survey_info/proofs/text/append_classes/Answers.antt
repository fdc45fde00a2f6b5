use Rattle.std.proofs.Common.{◌+◌, arith}
use Rattle.survey_info.proofs.Lines.{classes_more, classes_all}
use Rattle.survey_info.proofs.text.append_classes.Goals as goal

pub loop-class-preserved : goal.loop-class-preserved
loop-class-preserved c = record {
  text = classes_more c.args.out.now.items c.loop-class.out.items c.append_class.new.out.items c.args.counts.now c.loop-class.class (c.loop-class.class + 1) (omega arith) c.loop-class.invariant.text c.append_class.ensures.appended;
  room = omega (arith, c.loop-class.invariant.room, c.append_class.ensures.room);
}

pub returns : goal.returns
returns c = classes_all c.args.out.now.items c.loop-class.out.items c.args.counts.now c.loop-class.class (omega (arith, c.requires.all)) c.loop-class.invariant.text
