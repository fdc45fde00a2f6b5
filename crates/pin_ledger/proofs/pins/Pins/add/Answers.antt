use Rattle.std.proofs.Common.{◌≡◌, ◌+◌, Some, None, sym, ap, ◌∙◌, arith}
use Rattle.std.specs.List.{position}
use Rattle.pin_ledger.specs.Ledger.{is_of}
use Rattle.pin_ledger.proofs.Counting.{pins_within, room_left, each-set, each_pushed, counted_set, counted_push}
use Rattle.pin_ledger.proofs.pins.Pins.add.Goals as goal

pub overflow_add-index_mut : goal.overflow_add-index_mut
overflow_add-index_mut c =
    let place : position (is_of c.args.version) c.self.inside.kept.items ≡ Some c.in-Some.i = ap (position (is_of c.args.version)) (sym c.as_slice.ensures.value) ∙ sym c.place_of.ensures ∙ c.in-Some.is in
    omega (arith, c.requires.few, pins_within c.self.inside.kept.items c.args.self.now.pinned c.args.version c.in-Some.i c.index_mut.result.now (ap (λ l. l.pinned) c.self.view_is) place c.index_mut.ensures.value)

pub invariant_of-self : goal.invariant_of-self
invariant_of-self c = each-set _ _ _ (omega arith) c.self.invariant

pub returns-in-Some-clause-added : goal.returns-in-Some-clause-added
returns-in-Some-clause-added c =
    let place : position (is_of c.args.version) c.self.inside.kept.items ≡ Some c.in-Some.i = ap (position (is_of c.args.version)) (sym c.as_slice.ensures.value) ∙ sym c.place_of.ensures ∙ c.in-Some.is in
    let at = c.index_mut.result.now in
    let after = counted_set c.self.inside.kept.items c.args.self.now.pinned c.args.version c.in-Some.i (at.pins + 1) at (ap (λ l. l.pinned) c.self.view_is) place c.index_mut.ensures.value in
    omega (arith, after.0)

pub returns-in-Some-clause-others : goal.returns-in-Some-clause-others
returns-in-Some-clause-others c =
    let place : position (is_of c.args.version) c.self.inside.kept.items ≡ Some c.in-Some.i = ap (position (is_of c.args.version)) (sym c.as_slice.ensures.value) ∙ sym c.place_of.ensures ∙ c.in-Some.is in
    let at = c.index_mut.result.now in
    let after = counted_set c.self.inside.kept.items c.args.self.now.pinned c.args.version c.in-Some.i (at.pins + 1) at (ap (λ l. l.pinned) c.self.view_is) place c.index_mut.ensures.value in
    after.1

pub unwrap-requires : goal.unwrap-requires
unwrap-requires c =
    let place : position (is_of c.args.version) c.self.inside.kept.items ≡ None = ap (position (is_of c.args.version)) (sym c.as_slice.ensures.value) ∙ sym c.place_of.ensures ∙ c.in-None.is in
    c.push-done.ensures.succeeds (room_left c.self.inside.kept.items c.args.self.now.pinned c.args.version _ _ _ (ap (λ l. l.pinned) c.self.view_is) place (ap (λ l. l.spare) c.self.view_is) c.requires.room)

pub invariant_of-self-in-None : goal.invariant_of-self-in-None
invariant_of-self-in-None c =
    let place : position (is_of c.args.version) c.self.inside.kept.items ≡ None = ap (position (is_of c.args.version)) (sym c.as_slice.ensures.value) ∙ sym c.place_of.ensures ∙ c.in-None.is in
    each_pushed _ _ _ _ c.self.invariant (c.push-done.ensures.succeeds (room_left c.self.inside.kept.items c.args.self.now.pinned c.args.version _ _ _ (ap (λ l. l.pinned) c.self.view_is) place (ap (λ l. l.spare) c.self.view_is) c.requires.room)) c.push-done.ensures.items

pub returns-in-None-clause-added : goal.returns-in-None-clause-added
returns-in-None-clause-added c =
    let place : position (is_of c.args.version) c.self.inside.kept.items ≡ None = ap (position (is_of c.args.version)) (sym c.as_slice.ensures.value) ∙ sym c.place_of.ensures ∙ c.in-None.is in
    (counted_push c.self.inside.kept.items c.args.self.now.pinned _ c.args.version _ (ap (λ l. l.pinned) c.self.view_is) place (c.push-done.ensures.succeeds (room_left c.self.inside.kept.items c.args.self.now.pinned c.args.version _ _ _ (ap (λ l. l.pinned) c.self.view_is) place (ap (λ l. l.spare) c.self.view_is) c.requires.room)) c.push-done.ensures.items).0

pub returns-in-None-clause-others : goal.returns-in-None-clause-others
returns-in-None-clause-others c =
    let place : position (is_of c.args.version) c.self.inside.kept.items ≡ None = ap (position (is_of c.args.version)) (sym c.as_slice.ensures.value) ∙ sym c.place_of.ensures ∙ c.in-None.is in
    (counted_push c.self.inside.kept.items c.args.self.now.pinned _ c.args.version _ (ap (λ l. l.pinned) c.self.view_is) place (c.push-done.ensures.succeeds (room_left c.self.inside.kept.items c.args.self.now.pinned c.args.version _ _ _ (ap (λ l. l.pinned) c.self.view_is) place (ap (λ l. l.spare) c.self.view_is) c.requires.room)) c.push-done.ensures.items).1
