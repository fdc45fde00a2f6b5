use Rattle.std.proofs.lemmas.Result.{on_err_weaker, on_ok_weaker}
use Rattle.las_write.proofs.Fronts.{on_err, part_before_points, part_of_points, part_after_points, got_saved}
use Rattle.las_write.proofs.Saved.{saved-length}
use Rattle.las_write.proofs.writing.write_survey.Goals as goal

pub returns-in_err-give_all-clause-part : goal.returns-in_err-give_all-clause-part
returns-in_err-give_all-clause-part g c =
    on_err c.from_residual.result
    (part_before_points c.args.survey.now c.args.classes.now _ _ _ c.around_points.ensures.there c.around_points.ensures.before c.in_err-give_all.ensures.part)

pub returns-in_err-give_all-clause-length : goal.returns-in_err-give_all-clause-length
returns-in_err-give_all-clause-length g c = saved-length c.args.survey.now c.args.classes.now

pub returns-in_err-give_records-clause-part : goal.returns-in_err-give_records-clause-part
returns-in_err-give_records-clause-part g c =
    on_err c.from_residual-in_err-give_records.result
    (part_of_points c.args.survey.now c.args.classes.now _ _ _ _ c.around_points.ensures.there c.around_points.ensures.before c.in_ok-give_all.ensures.given c.in_err-give_records.ensures.part)

pub returns-in_err-give_records-clause-length : goal.returns-in_err-give_records-clause-length
returns-in_err-give_records-clause-length g c = saved-length c.args.survey.now c.args.classes.now

pub returns-clause-given : goal.returns-clause-given
returns-clause-given g c =
    on_ok_weaker c.give_all-2.result
    (got_saved c.args.survey.now c.args.classes.now _ _ _ _ _ _ c.around_points.ensures.there c.around_points.ensures.before
    c.around_points.ensures.after c.in_ok-give_all.ensures.given c.in_ok-give_records.ensures.given)
    c.give_all-2.ensures.given

pub returns-clause-part : goal.returns-clause-part
returns-clause-part g c =
    on_err_weaker c.give_all-2.result
    (part_after_points c.args.survey.now c.args.classes.now _ _ _ _ _ _ c.around_points.ensures.there c.around_points.ensures.before
    c.around_points.ensures.after c.in_ok-give_all.ensures.given c.in_ok-give_records.ensures.given)
    c.give_all-2.ensures.part

pub returns-clause-length : goal.returns-clause-length
returns-clause-length g c = saved-length c.args.survey.now c.args.classes.now
