use Rattle.std.proofs.Common.{◌∙◌, refl, inl, inr}
use Rattle.view_commands.proofs.Tried.{only_wrote-none, writes-summary}
use Rattle.view_commands.proofs.trying.trial_file.Goals as goal

pub returns-in-Ok : goal.returns-in-Ok
returns-in-Ok g c = writes-summary _ _ _ c.args.start c.args.records c.args.out.now c.as_slice.result.now _ (c.as_slice.ensures ∙ c.in-Ok.ensures) c.write_text.ensures.written c.write_text.ensures.only

pub returns-in-Err : goal.returns-in-Err
returns-in-Err g c = record {
  written = (inl (λ other. refl), refl);
  only = only_wrote-none (g.D.Desk.says c.args.desk.now) c.args.out.now;
  settled = λ calm. inr refl;
}
