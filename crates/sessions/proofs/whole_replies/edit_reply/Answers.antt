use Rattle.std.proofs.Common.{◌∙◌, ◌++◌, ◌∷◌, [], List, ℕ, ap, inl}
use Rattle.std.specs.Prelude.{codes}
use Rattle.version_store.specs.Histories.{journal}
use Rattle.version_store.specs.Sharing.{changed_by_last}
use Rattle.sessions.specs.Session.{head}
use Rattle.sessions.specs.Talk.{talk_of}
use Rattle.sessions.specs.Worlds.{survey_of}
use Rattle.sessions.proofs.Calls.{made_none}
use Rattle.sessions.proofs.Answered.{replied_none, replied_edit}
use Rattle.sessions.proofs.whole_replies.edit_reply.Goals as goal

pub returns-in_err-version-clause-replied : goal.returns-in_err-version-clause-replied
returns-in_err-version-clause-replied g c =
    replied_none _ (survey_of c.args.world.now) (talk_of c.args.pass.now c.args.marks.now) (talk_of c.publish.new.pass c.reserve.new.self) _ c.from_residual-in_err-version.result
    (inl (record { made = made_none c.args.pass.now c.publish.new.pass c.requires.ready.own c.publish.ensures.own c.in_err-version.ensures.refused; marks = c.reserve.ensures.same })) c.from_residual-in_err-version.ensures.1

pub returns-clause-replied : goal.returns-clause-replied
returns-clause-replied g c =
    let b = survey_of c.args.world.now in
    let v = c.in_ok-version.version in
    let changed = c.in_ok-version.changed in
    replied_edit b c.args.edit.now c.args.pass.now c.publish.new.pass c.args.marks.now.items c.push_within.new.self.items v changed _
    (record {
      before = c.requires.ready.own;
      after = c.publish.ensures.own;
      made = c.in_ok-version.ensures.made;
      version = c.in_ok-version.ensures.version;
      marked = c.push_within.ensures.pushed ∙ ap (λ (l : List ℕ). l ++ v ∷ []) c.reserve.ensures.same;
    })
    (c.in_ok-version.ensures.count ∙ ap (λ (l : List ℕ). changed_by_last l (journal c.publish.new.pass.seen)) c.requires.world.bytes)
    (c.append_head.ensures ∙ ap (λ (l : List ℕ). l ++ head (codes "EDITED") v changed) (c.reserve-2.ensures.same ∙ c.new-out.ensures))
