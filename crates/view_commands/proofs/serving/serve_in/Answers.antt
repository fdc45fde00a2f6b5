use Rattle.std.proofs.Common.{◌≡◌, ◌∙◌, All, List, drop, length, inl, inr, subst, sym}
use Rattle.std.specs.Arc.{arc_value}
use Rattle.std.specs.List.{AllZip}
use Rattle.std.proofs.lemmas.List.{length-map, take_at}
use Rattle.std.specs.Prelude.{string_bytes}
use Rattle.view_words.specs.CommandLine.{texts}
use Rattle.view_commands.specs.declared.status.Status as status
use Rattle.view_commands.specs.Steps.{CanFinish, CanServe, EachFrom, FinishesRun, IsServed, RefusesOpening, Seated}
use Rattle.view_commands.proofs.Begun.{finish-each, serve-each}
use Rattle.view_commands.proofs.Lists.{zip-length}
use Rattle.view_commands.proofs.Openings.{refused-shut}
use Rattle.view_commands.proofs.RunFinished.{run-all}
use Rattle.view_commands.proofs.serving.serve_in.Goals as goal

pub serve_all-requires-clause-ready : goal.serve_all-requires-clause-ready
serve_all-requires-clause-ready g c κs within =
    subst (λ (l : List Seated). All (CanServe c.args.room.world.shared.name) l) (sym c.as_mut_slice.ensures.value)
    (serve-each g.D.Desk.tells (g.D.Desk.says c.args.desk.now) (g.D.Desk.says c.open_all.new.desk) (texts c.args.words.now) c.args.room.world.shared.name 0 c.open_all.new.seats.items c.in-Ok.ensures.opened.each)

pub finish_run-requires-clause-seats : goal.finish_run-requires-clause-seats
finish_run-requires-clause-seats g c κs within =
    let b = arc_value c.args.room.world.scene.survey in
    let served = subst (λ (l : List Seated). AllZip (IsServed b) l c.serve_all.new.seats) c.as_mut_slice.ensures.value c.serve_all.ensures in
    let long : length c.serve_all.new.seats ≡ c.open_all.new.seats.len = zip-length (IsServed b) _ _ c.serve_all.ensures ∙ c.as_mut_slice.ensures.len in
    subst (λ (l : List Seated). EachFrom (CanFinish (g.D.Desk.says c.open_all.new.desk) (texts c.args.words.now) c.args.room.world.shared.name) 0 l)
    (sym (take_at c.serve_all.new.seats (drop (length c.serve_all.new.seats) c.open_all.new.seats.items) c.open_all.new.seats.len long))
    (finish-each g.D.Desk.tells (g.D.Desk.says c.args.desk.now) (g.D.Desk.says c.open_all.new.desk) (texts c.args.words.now) c.args.room.world.shared.name b c.open_all.new.seats.items c.serve_all.new.seats c.in-Ok.ensures.opened.each served)

pub returns-in-Ok : goal.returns-in-Ok
returns-in-Ok g c =
    let b = arc_value c.args.room.world.scene.survey in
    let served = subst (λ (l : List Seated). AllZip (IsServed b) l c.serve_all.new.seats) c.as_mut_slice.ensures.value c.serve_all.ensures in
    let long : length c.serve_all.new.seats ≡ c.open_all.new.seats.len = zip-length (IsServed b) _ _ c.serve_all.ensures ∙ c.as_mut_slice.ensures.len in
    let finished = subst (λ (l : List Seated). FinishesRun g.D.Desk.tells (g.D.Desk.says c.open_all.new.desk) (g.D.Desk.says c.finish_run.new.desk) (texts c.args.words.now) l c.open_all.new.root c.finish_run.result)
    (take_at c.serve_all.new.seats (drop (length c.serve_all.new.seats) c.open_all.new.seats.items) c.open_all.new.seats.len long) c.finish_run.ensures in
    inr (run-all g.D.Desk.tells _ (g.D.Desk.says c.open_all.new.desk) _ (texts c.args.words.now) b c.args.room.world.shared.name c.args.count c.open_all.new.seats.items c.serve_all.new.seats c.open_all.new.root c.args.room.root c.finish_run.result
    (length-map c.args.words.now string_bytes ∙ c.requires.pairs) c.in-Ok.ensures.count c.in-Ok.ensures.opened served c.requires.root c.in-Ok.ensures.root finished)

pub returns-in-Err : goal.returns-in-Err
returns-in-Err g c =
    let refused = refused-shut g.D.Desk.tells _ (g.D.Desk.says c.open_all.new.desk) _ (texts c.args.words.now) c.in-Err.status c.in-Err.ensures.refused c.shut_all.ensures in
    inl (c.only.ensures.told, subst (λ (s : status.Status). RefusesOpening g.D.Desk.tells (g.D.Desk.says c.args.desk.now) (g.D.Desk.says c.shut_all.new.desk) (texts c.args.words.now) s) (sym c.only.ensures.status) refused)
