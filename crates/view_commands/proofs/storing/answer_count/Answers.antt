use Rattle.std.proofs.Common.{◌∙◌, ◌++◌, List, ℕ, Ok, ap, refl, sym}
use Rattle.std.specs.Prelude.{codes}
use Rattle.std.specs.Arc.{arc_value}
use Rattle.sessions.specs.Session.{head}
use Rattle.version_store.specs.Store.{Pinned}
use Rattle.view_lines.specs.declared.command.Command.TheVariants.{Count}
use Rattle.view_meaning.specs.Classes.{passing}
use Rattle.view_commands.proofs.Newest.{HasPinned-newest, answers-shown, reply-count}
use Rattle.view_commands.proofs.storing.answer_count.Goals as goal

pub unpin-requires : goal.unpin-requires
unpin-requires g c =
    record { pinned = HasPinned-newest c.args.store.now c.pin.new.self 1 c.in_ok-pin.pin.version c.in_ok-pin.ensures.pinned (ap (λ (p : Pinned). p.version) c.in_ok-pin.ensures.pin) c.requires.stage.legal }

pub returns : goal.returns
returns g c =
    let filter = c.args.filter.now in
    let v = c.version.result in
    answers-shown c.args.store.now c.pin.new.self c.unpin.new.self 1 c.in_ok-pin.pin.version (Ok (Count filter)) c.args.out.now.items c.append_count.new.out.items
    c.in_ok-pin.ensures.pinned c.unpin.ensures.unpinned c.unpin.ensures.legal refl
    (reply-count c.args.store.now filter v (arc_value c.args.scene.now.survey) c.classes.result.now c.args.out.now.items c.append_count.new.out.items
    (sym c.requires.stage.bytes)
    (c.version.ensures ∙ ap (λ (p : Pinned). p.version) c.in_ok-pin.ensures.pin)
    (c.classes.ensures ∙ ap (λ (p : Pinned). p.classes) c.in_ok-pin.ensures.pin)
    (c.append_count.ensures ∙ ap (λ (l : List ℕ). l ++ head (codes "COUNT") v (passing (arc_value c.args.scene.now.survey) c.classes.result.now filter)) c.reserve.ensures.same))
