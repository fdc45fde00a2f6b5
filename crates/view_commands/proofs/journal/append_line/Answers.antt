use Rattle.std.proofs.Common.{◌≡◌, List, ℕ, subst}
use Rattle.std.specs.Result.{OnOk}
use Rattle.view_commands.proofs.JournalText.{line_appended}
use Rattle.view_commands.proofs.journal.append_line.Goals as goal

pub returns : goal.returns
returns c = subst (λ (l : List ℕ). OnOk c.append.result (c.append.new.self.items ≡ l)) (line_appended c.args.text.now.items c.edit_text.new.out.items c.args.edit.now c.in_ok-edit_text.ensures.appended) c.append.ensures.appended
