use Rattle.std.proofs.Common.{◌++◌, sym, ap, ◌∙◌, arith}
use Rattle.edit_ops.specs.EditLine.{runs}
use Rattle.edit_ops.specs.Reading.{members_from}
use Rattle.edit_ops.proofs.ListText.{text_from, one_item, no_item, classes_text-all, classes_text-runs}
use Rattle.edit_ops.proofs.writing.append_classes.Goals as goal

pub returns-then-eq-clause-appended : goal.returns-then-eq-clause-appended
returns-then-eq-clause-appended c =
    c.append_within.ensures.appended ∙ ap (λ text. c.args.out.now.items ++ text) (sym (classes_text-all c.args.classes.now (rw c.all.ensures.value at (sym c.if-eq.ensures))))

pub loop-first-preserved : goal.loop-first-preserved
loop-first-preserved c =
    let old = c.loop-first.invariant in
    record {
      text =
          rw c.from-from.ensures
          (one_item c.args.classes.now c.loop-first.from c.in-Some.first c.in-Some.last c.args.out.now.items c.loop-first.out.items c.append_item.new.out.items (text_from 0 (runs (members_from c.args.classes.now 0))) c.in-Some.ensures.run old.text c.append_item.ensures.appended);
      room = omega (arith, old.room, c.append_item.ensures.room, c.in-Some.ensures.after);
      within = omega (arith, c.in-Some.ensures.within);
    }

pub returns-clause-appended : goal.returns-clause-appended
returns-clause-appended c =
    no_item c.args.classes.now c.loop-first.from c.loop-first.out.items _ c.in_default.ensures.none c.loop-first.invariant.text
    ∙ ap (λ text. c.args.out.now.items ++ text) (sym (classes_text-runs c.args.classes.now (rw c.all.ensures.value at (sym c.if-eq.ensures))))
