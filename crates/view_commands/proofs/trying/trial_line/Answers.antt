use Rattle.std.proofs.Common.{List, ℕ, pos, Option, ℤ, ap, sym, subst}
use Rattle.std.specs.Prelude.{unwrap_or, unsigned_abs}
use Rattle.view_base.specs.Fitting.{word_at}
use Rattle.view_words.specs.CommandLine.{texts}
use Rattle.view_commands.specs.Trial.{WritesSummary, natural_at}
use Rattle.view_commands.specs.declared.places.TheConstants.{TRIAL_OUT}
use Rattle.view_commands.proofs.trying.trial_line.Goals as goal

pub returns : goal.returns
returns g c =
    let ws = texts c.args.words.now in
    let tells = g.D.Desk.tells in
    let old = g.D.Desk.says c.args.desk.now in
    let new = g.D.Desk.says c.trial_file.new.desk in
    let natural = λ (o : Option ℤ). unsigned_abs (unwrap_or o (pos 0)) in
    subst (λ (start : ℕ). WritesSummary tells old new start (natural_at ws 2) (word_at ws TRIAL_OUT) c.trial_file.result) (sym (ap natural c.start-start.ensures))
    (subst (λ (records : ℕ). WritesSummary tells old new c.start-start.result records (word_at ws TRIAL_OUT) c.trial_file.result) (sym (ap natural c.records-records.ensures.value))
    (subst (λ (out : List ℕ). WritesSummary tells old new c.start-start.result c.records-records.result out c.trial_file.result) c.text_at-out.ensures c.trial_file.ensures))
