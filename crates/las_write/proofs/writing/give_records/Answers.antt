use Rattle.std.proofs.Common.{◌+◌, arith, length}
use Rattle.std.proofs.lemmas.Grind.{common_steps}
use Rattle.las_write.proofs.Fronts.{on_err, got_run, part_of_run}
use Rattle.las_write.proofs.PageRuns.{fits-run}
use Rattle.las_write.proofs.writing.give_records.Goals as goal

pub copy_records-requires-clause-room : goal.copy_records-requires-clause-room
copy_records-requires-clause-room g c = fits-run _ c.loop-given.given c.args.classes.now _ c.run_from-run.ensures.run c.requires.room

pub returns-in_err-give_all-clause-part : goal.returns-in_err-give_all-clause-part
returns-in_err-give_all-clause-part g c =
    on_err c.from_residual.result
    (part_of_run c.args.survey.now c.args.classes.now c.copy_records.new.piece _ _ _ c.loop-given.given (length c.run_from-run.result.now) _ (c.copy_records.ensures c.args.classes.now c.run_from-run.ensures.run)
    (omega (arith, c.run_from-run.ensures.within, c.requires.records)) c.loop-given.invariant.got c.in_err-give_all.ensures.part)

pub loop-given-preserved : goal.loop-given-preserved
loop-given-preserved g c =
    record {
      within = omega (arith, c.run_from-run.ensures.within, c.requires.records, c.records-records.ensures.count);
      got = got_run _ _ _ _ _ _ _ _ (c.copy_records.ensures c.args.classes.now c.run_from-run.ensures.run) c.loop-given.invariant.got c.in_ok-give_all.ensures.given;
      calm = grind (arith, common_steps);
    }
