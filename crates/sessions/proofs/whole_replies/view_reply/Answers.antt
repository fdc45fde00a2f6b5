use Rattle.std.proofs.Common.{◌∙◌, ◌++◌, List, ℕ, ap, inl}
use Rattle.std.specs.Prelude.{codes}
use Rattle.view_meaning.specs.Picture.{picture}
use Rattle.version_store.specs.Store.{Pinned}
use Rattle.version_store.proofs.SharedCalls.{HasPinned-shown}
use Rattle.sessions.specs.Session.{with_length}
use Rattle.sessions.specs.Talk.{talk_of}
use Rattle.sessions.specs.Worlds.{survey_of}
use Rattle.sessions.proofs.Calls.{made_none, shown_by}
use Rattle.sessions.proofs.Answered.{replied_none, replied_view, replied_view-none}
use Rattle.sessions.proofs.whole_replies.view_reply.Goals as goal

pub unpin-requires-clause-pinned : goal.unpin-requires-clause-pinned
unpin-requires-clause-pinned g c =
    HasPinned-shown c.args.pass.now c.pin.new.pass c.in_ok-pin.pin.version c.requires.ready.own c.pin.ensures.own c.in_ok-pin.ensures.made (ap (λ (p : Pinned). p.version) c.in_ok-pin.ensures.pin)

pub returns-in_err-pin-clause-replied : goal.returns-in_err-pin-clause-replied
returns-in_err-pin-clause-replied g c =
    replied_none _ (survey_of c.args.world.now) (talk_of c.args.pass.now c.args.marks.now) (talk_of c.pin.new.pass c.reserve.new.self) _ c.from_residual-in_err-pin.result
    (inl (record { made = made_none c.args.pass.now c.pin.new.pass c.requires.ready.own c.pin.ensures.own c.in_err-pin.ensures.refused; marks = c.reserve.ensures.same })) c.from_residual-in_err-pin.ensures.1

pub returns-in_err-drawn-clause-replied : goal.returns-in_err-drawn-clause-replied
returns-in_err-drawn-clause-replied g c =
    let b = survey_of c.args.world.now in
    let v = c.version-version.result in
    let shown =
    shown_by b c.args.world.now.shared.bytes c.args.pass.now c.pin.new.pass c.unpin.new.pass c.args.marks.now.items c.reserve.new.self.items c.push_within.new.self.items v c.in_ok-pin.pin
    c.requires.world.bytes c.requires.ready.own c.pin.ensures.own c.unpin.ensures.own c.in_ok-pin.ensures.made c.in_ok-pin.ensures.pin c.version-version.ensures c.reserve.ensures.same c.push_within.ensures.pushed c.unpin.ensures.made in
    replied_view-none b c.args.pass.now c.pin.new.pass c.unpin.new.pass c.args.marks.now.items c.push_within.new.self.items v c.in_ok-pin.pin.classes shown _ c.args.view.now c.from_residual-in_err-drawn.result c.from_residual-in_err-drawn.ensures.1

pub returns-clause-replied : goal.returns-clause-replied
returns-clause-replied g c =
    let b = survey_of c.args.world.now in
    let v = c.version-version.result in
    let view = c.args.view.now in
    let shown =
    shown_by b c.args.world.now.shared.bytes c.args.pass.now c.pin.new.pass c.unpin.new.pass c.args.marks.now.items c.reserve.new.self.items c.push_within.new.self.items v c.in_ok-pin.pin
    c.requires.world.bytes c.requires.ready.own c.pin.ensures.own c.unpin.ensures.own c.in_ok-pin.ensures.made c.in_ok-pin.ensures.pin c.version-version.ensures c.reserve.ensures.same c.push_within.ensures.pushed c.unpin.ensures.made in
    replied_view b c.args.pass.now c.pin.new.pass c.unpin.new.pass c.args.marks.now.items c.push_within.new.self.items v c.in_ok-pin.pin.classes shown view _
    (c.in_ok-drawn.ensures.appended ∙ ap (λ (l : List ℕ). l ++ with_length (codes "PICTURE") v (picture b c.classes-classes.result.now view)) c.new-out.ensures
    ∙ ap (λ (cs : List ℕ). with_length (codes "PICTURE") v (picture b cs view)) c.classes-classes.ensures)
