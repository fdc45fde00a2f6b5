use Rattle.std.proofs.Common.{◌∙◌, ◌++◌, List, ℕ, ap}
use Rattle.std.specs.Prelude.{codes}
use Rattle.sessions.specs.Session.{head}
use Rattle.view_commands.proofs.Newest.{answers-edit}
use Rattle.view_commands.proofs.storing.answer_edit.Goals as goal

pub returns : goal.returns
returns c =
    answers-edit c.args.store.now c.publish.new.self 1 c.in_ok-version.version c.in_ok-version.changed c.args.edit.now c.args.out.now.items c.append_head.new.out.items
    c.in_ok-version.ensures.published c.in_ok-version.ensures.legal c.in_ok-version.ensures.version c.in_ok-version.ensures.count
    (c.append_head.ensures ∙ ap (λ (l : List ℕ). l ++ head (codes "EDITED") c.in_ok-version.version c.in_ok-version.changed) c.reserve.ensures.same)
