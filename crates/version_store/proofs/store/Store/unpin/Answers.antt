use Rattle.std.proofs.Common.{◌≡◌, ◌||◌, true, false, eqb, nat_lt, length, Some, None, sym, ap, ◌∙◌, arith}
use Rattle.std.specs.List.{position}
use Rattle.version_store.specs.Histories.{journal, HasPinned}
use Rattle.version_store.specs.Store.{Stored, is_version}
use Rattle.version_store.proofs.HistoryLaws.{IsLegal-unpin}
use Rattle.version_store.proofs.Keeping.{place_found, place-pins, some_out, same_read, pinned_inside}
use Rattle.version_store.proofs.KeptAfter.{IsKept-unpin, IsKept-unpin_last}
use Rattle.version_store.proofs.store.Store.unpin.Goals as goal

pub append-requires : goal.append-requires
append-requires c =
    let pinned : HasPinned c.self.inside.history.items c.args.who c.pin.inside.version = pinned_inside _ _ _ _ _ c.self.view_is c.pin.view_is c.requires.pinned in
    omega (arith, some_out _ _ _ _ _ c.self.invariant c.args.who c.pin.inside.version pinned)

pub overflow_sub-self : goal.overflow_sub-self
overflow_sub-self c =
    let pinned : HasPinned c.self.inside.history.items c.args.who c.pin.inside.version = pinned_inside _ _ _ _ _ c.self.view_is c.pin.view_is c.requires.pinned in
    some_out _ _ _ _ _ c.self.invariant c.args.who c.pin.inside.version pinned

pub overflow_sub-index_mut : goal.overflow_sub-index_mut
overflow_sub-index_mut c =
    let pinned : HasPinned c.self.inside.history.items c.args.who c.pin.inside.version = pinned_inside _ _ _ _ _ c.self.view_is c.pin.view_is c.requires.pinned in
    let found : position (is_version c.pin.inside.version) c.self.inside.held.items ≡ Some c.in-Some.place = ap (position (is_version c.pin.inside.version)) (sym c.deref.ensures.value) ∙ sym c.place_of.ensures ∙ c.in-Some.is in
    let place = place-pins _ _ _ _ _ c.self.invariant c.args.who c.pin.inside.version c.in-Some.place c.index_mut.result.now pinned found c.index_mut.ensures.value in
    omega (arith, place.pins, place.some)

pub invariant_of-self : goal.invariant_of-self
invariant_of-self c =
    let pinned : HasPinned c.self.inside.history.items c.args.who c.pin.inside.version = pinned_inside _ _ _ _ _ c.self.view_is c.pin.view_is c.requires.pinned in
    let found : position (is_version c.pin.inside.version) c.self.inside.held.items ≡ Some c.in-Some.place = ap (position (is_version c.pin.inside.version)) (sym c.deref.ensures.value) ∙ sym c.place_of.ensures ∙ c.in-Some.is in
    let place = place-pins _ _ _ _ _ c.self.invariant c.args.who c.pin.inside.version c.in-Some.place c.index_mut.result.now pinned found c.index_mut.ensures.value in
    let current : c.current-current.result ≡ length (journal c.self.inside.history.items) = c.current-current.ensures ∙ ap (λ (s : Stored). length (journal s.history)) (sym c.self.view_is) in
    let same = same_read c.self.inside.held.items c.in-Some.place c.index_mut.result.now c.index.result.now place.within c.index_mut.ensures.value c.index.ensures in
    let stay : (eqb c.pin.inside.version (length (journal c.self.inside.history.items)) || nat_lt 1 c.index_mut.result.now.pins) ≡ true =
    ap (λ n. eqb c.pin.inside.version n || nat_lt 1 c.index_mut.result.now.pins) (sym current) ∙ ap (λ at. eqb c.pin.inside.version c.current-current.result || nat_lt 1 at.pins) same ∙ c.if-stays.true in
    rw c.append.ensures.items (IsKept-unpin _ _ _ _ _ c.in-Some.place c.args.who c.pin.inside.version _ c.index_mut.result.now c.self.invariant pinned found c.index_mut.ensures.value stay (omega arith))

pub invariant_of-self-else-stays : goal.invariant_of-self-else-stays
invariant_of-self-else-stays c =
    let pinned : HasPinned c.self.inside.history.items c.args.who c.pin.inside.version = pinned_inside _ _ _ _ _ c.self.view_is c.pin.view_is c.requires.pinned in
    let found : position (is_version c.pin.inside.version) c.self.inside.held.items ≡ Some c.in-Some.place = ap (position (is_version c.pin.inside.version)) (sym c.deref.ensures.value) ∙ sym c.place_of.ensures ∙ c.in-Some.is in
    let current : c.current-current.result ≡ length (journal c.self.inside.history.items) = c.current-current.ensures ∙ ap (λ (s : Stored). length (journal s.history)) (sym c.self.view_is) in
    let gone : (eqb c.pin.inside.version (length (journal c.self.inside.history.items)) || nat_lt 1 c.index.result.now.pins) ≡ false =
    ap (λ n. eqb c.pin.inside.version n || nat_lt 1 c.index.result.now.pins) (sym current) ∙ c.if-stays.false in
    rw (c.append.ensures.items, c.remove.ensures.items) (IsKept-unpin_last _ _ _ _ _ c.in-Some.place c.args.who c.pin.inside.version _ c.index.result.now c.self.invariant pinned found c.index.ensures gone (omega arith))

pub unreachable-requires : goal.unreachable-requires
unreachable-requires c =
    let pinned : HasPinned c.self.inside.history.items c.args.who c.pin.inside.version = pinned_inside _ _ _ _ _ c.self.view_is c.pin.view_is c.requires.pinned in
    let none : position (is_version c.pin.inside.version) c.self.inside.held.items ≡ None = ap (position (is_version c.pin.inside.version)) (sym c.deref.ensures.value) ∙ sym c.place_of.ensures ∙ c.in-None.is in
    place_found _ _ _ _ _ c.self.invariant c.args.who c.pin.inside.version pinned none

pub returns-then-stays-clause-legal : goal.returns-then-stays-clause-legal
returns-then-stays-clause-legal c =
    let pinned : HasPinned c.self.inside.history.items c.args.who c.pin.inside.version = pinned_inside _ _ _ _ _ c.self.view_is c.pin.view_is c.requires.pinned in
    rw c.append.ensures.items (IsLegal-unpin c.args.who c.pin.inside.version c.self.inside.history.items c.self.invariant.legal pinned)

pub returns-else-stays-clause-legal : goal.returns-else-stays-clause-legal
returns-else-stays-clause-legal c =
    let pinned : HasPinned c.self.inside.history.items c.args.who c.pin.inside.version = pinned_inside _ _ _ _ _ c.self.view_is c.pin.view_is c.requires.pinned in
    rw c.append.ensures.items (IsLegal-unpin c.args.who c.pin.inside.version c.self.inside.history.items c.self.invariant.legal pinned)
