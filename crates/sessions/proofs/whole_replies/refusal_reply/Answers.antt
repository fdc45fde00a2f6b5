use Rattle.std.proofs.Common.{◌∙◌, ◌++◌, ◌∷◌, [], List, ℕ, ap, decimal}
use Rattle.std.specs.Prelude.{codes}
use Rattle.sessions.specs.Talk.{last_mark}
use Rattle.sessions.proofs.Answered.{replied_refused}
use Rattle.sessions.proofs.whole_replies.refusal_reply.Goals as goal

pub returns : goal.returns
returns c = record {
  replied = λ b pass.
      let marks = c.args.marks.now.items in
      replied_refused b pass marks c.push_within.new.self.items c.args.refusal.now _
      (c.push_within.ensures.pushed ∙ ap (λ (l : List ℕ). l ++ c.last_mark-last.result ∷ []) c.reserve.ensures.same ∙ ap (λ (v : ℕ). marks ++ v ∷ []) (c.last_mark-last.ensures ∙ ap last_mark (c.as_slice.ensures ∙ c.reserve.ensures.same)))
      (c.append_refusal.ensures ∙ ap (λ (l : List ℕ). l ++ codes "REFUSED " ++ decimal c.code.result ++ codes "\n") (c.reserve-2.ensures.same ∙ c.new-out.ensures)
      ∙ ap (λ (n : ℕ). codes "REFUSED " ++ decimal n ++ codes "\n") c.code.ensures);
}
