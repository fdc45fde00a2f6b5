use Rattle.std.proofs.Common.{◌≡◌, ◌∙◌, ◌++◌, Ok, ap, refl, sym}
use Rattle.std.specs.Arc.{arc_value}
use Rattle.std.specs.Prelude.{codes}
use Rattle.sessions.specs.Session.{with_length}
use Rattle.version_store.specs.Store.{Pinned}
use Rattle.view_lines.specs.declared.command.Command.TheVariants.{View}
use Rattle.view_meaning.specs.Picture.{picture}
use Rattle.view_commands.specs.Steps.{Answers}
use Rattle.view_commands.proofs.Newest.{HasPinned-newest, answers-shown, on_ok-then, reply-view}
use Rattle.view_commands.proofs.storing.answer_view.Goals as goal

pub unpin-requires : goal.unpin-requires
unpin-requires g c =
    record { pinned = HasPinned-newest c.args.store.now c.pin.new.self 1 c.in_ok-pin.pin.version c.in_ok-pin.ensures.pinned (ap (λ (p : Pinned). p.version) c.in_ok-pin.ensures.pin) c.requires.stage.legal }

pub returns : goal.returns
returns g c =
    let view = c.args.view.now in
    let v = c.version-version.result in
    let cs = c.classes-classes.result.now in
    let b = arc_value c.args.scene.now.survey in
    on_ok-then c.append_picture-drawn.result
    (c.append_picture-drawn.new.out.items ≡ c.args.out.now.items ++ with_length (codes "PICTURE") v (picture b cs view))
    (Answers c.args.store.now c.unpin.new.self (Ok (View view)) c.args.out.now.items c.append_picture-drawn.new.out.items)
    (λ appended. answers-shown c.args.store.now c.pin.new.self c.unpin.new.self 1 c.in_ok-pin.pin.version (Ok (View view)) c.args.out.now.items c.append_picture-drawn.new.out.items
    c.in_ok-pin.ensures.pinned c.unpin.ensures.unpinned c.unpin.ensures.legal refl
    (reply-view c.args.store.now view v b cs c.args.out.now.items c.append_picture-drawn.new.out.items
    (sym c.requires.stage.bytes)
    (c.version-version.ensures ∙ ap (λ (p : Pinned). p.version) c.in_ok-pin.ensures.pin)
    (c.classes-classes.ensures ∙ ap (λ (p : Pinned). p.classes) c.in_ok-pin.ensures.pin)
    appended))
    c.append_picture-drawn.ensures.appended
