use Rattle.std.proofs.Common.{◌≡◌, ◌-◌, Some, None, sym, ap, ◌∙◌, arith}
use Rattle.std.specs.List.{position}
use Rattle.pin_ledger.specs.Ledger.{is_of, pins_of}
use Rattle.pin_ledger.proofs.Counting.{pins_of-none, kept_positive, found, each-set, each-swap_remove, counted_set, counted_swap_remove, one_left, more_left}
use Rattle.pin_ledger.proofs.pins.Pins.take.Goals as goal

pub invariant_of-self : goal.invariant_of-self
invariant_of-self c =
    let place : position (is_of c.args.version) c.self.inside.kept.items ≡ Some c.in-Some.i = ap (position (is_of c.args.version)) (sym c.as_slice.ensures.value) ∙ sym c.place_of.ensures ∙ c.in-Some.is in
    rw c.swap_remove.ensures.items (each-swap_remove c.self.inside.kept.items c.in-Some.i c.swap_remove.result (found c.self.inside.kept.items c.args.version c.in-Some.i c.swap_remove.result place).0 c.self.invariant)

pub overflow_sub-index_mut : goal.overflow_sub-index_mut
overflow_sub-index_mut c =
    let place : position (is_of c.args.version) c.self.inside.kept.items ≡ Some c.in-Some.i = ap (position (is_of c.args.version)) (sym c.as_slice.ensures.value) ∙ sym c.place_of.ensures ∙ c.in-Some.is in
    kept_positive c.self.inside.kept.items c.args.version c.in-Some.i c.index_mut.result.now c.self.invariant place c.index_mut.ensures.value

pub invariant_of-self-else-index-eq1 : goal.invariant_of-self-else-index-eq1
invariant_of-self-else-index-eq1 c =
    let place : position (is_of c.args.version) c.self.inside.kept.items ≡ Some c.in-Some.i = ap (position (is_of c.args.version)) (sym c.as_slice.ensures.value) ∙ sym c.place_of.ensures ∙ c.in-Some.is in
    each-set _ _ _ (more_left c.self.inside.kept.items c.args.version c.in-Some.i c.index.result.now c.index_mut.result.now c.self.invariant place c.index.ensures c.index_mut.ensures.value c.if-index-eq1.false) c.self.invariant

pub unreachable-requires : goal.unreachable-requires
unreachable-requires c =
    let place : position (is_of c.args.version) c.self.inside.kept.items ≡ None = ap (position (is_of c.args.version)) (sym c.as_slice.ensures.value) ∙ sym c.place_of.ensures ∙ c.in-None.is in
    absurd (omega (arith, c.requires, pins_of-none c.self.inside.kept.items c.args.version place, ap (λ l. pins_of l.pinned c.args.version) c.self.view_is))

pub returns-then-index-eq1-clause-taken : goal.returns-then-index-eq1-clause-taken
returns-then-index-eq1-clause-taken c =
    let place : position (is_of c.args.version) c.self.inside.kept.items ≡ Some c.in-Some.i = ap (position (is_of c.args.version)) (sym c.as_slice.ensures.value) ∙ sym c.place_of.ensures ∙ c.in-Some.is in
    let after = counted_swap_remove c.self.inside.kept.items c.args.self.now.pinned c.args.version c.in-Some.i c.swap_remove.result (ap (λ l. l.pinned) c.self.view_is) place c.swap_remove.ensures.value in
    let one = one_left c.self.inside.kept.items c.args.version c.in-Some.i c.index.result.now c.swap_remove.result place c.index.ensures c.swap_remove.ensures.value c.if-index-eq1.true in
    rw c.swap_remove.ensures.items (omega (arith, after.0, one))

pub returns-then-index-eq1-clause-others : goal.returns-then-index-eq1-clause-others
returns-then-index-eq1-clause-others c =
    let place : position (is_of c.args.version) c.self.inside.kept.items ≡ Some c.in-Some.i = ap (position (is_of c.args.version)) (sym c.as_slice.ensures.value) ∙ sym c.place_of.ensures ∙ c.in-Some.is in
    rw c.swap_remove.ensures.items (counted_swap_remove c.self.inside.kept.items c.args.self.now.pinned c.args.version c.in-Some.i c.swap_remove.result (ap (λ l. l.pinned) c.self.view_is) place c.swap_remove.ensures.value).1

pub returns-else-index-eq1-clause-taken : goal.returns-else-index-eq1-clause-taken
returns-else-index-eq1-clause-taken c =
    let place : position (is_of c.args.version) c.self.inside.kept.items ≡ Some c.in-Some.i = ap (position (is_of c.args.version)) (sym c.as_slice.ensures.value) ∙ sym c.place_of.ensures ∙ c.in-Some.is in
    let after = counted_set c.self.inside.kept.items c.args.self.now.pinned c.args.version c.in-Some.i (c.index_mut.result.now.pins - 1) c.index_mut.result.now (ap (λ l. l.pinned) c.self.view_is) place c.index_mut.ensures.value in
    omega (arith, after.0, kept_positive c.self.inside.kept.items c.args.version c.in-Some.i c.index_mut.result.now c.self.invariant place c.index_mut.ensures.value)

pub returns-else-index-eq1-clause-others : goal.returns-else-index-eq1-clause-others
returns-else-index-eq1-clause-others c =
    let place : position (is_of c.args.version) c.self.inside.kept.items ≡ Some c.in-Some.i = ap (position (is_of c.args.version)) (sym c.as_slice.ensures.value) ∙ sym c.place_of.ensures ∙ c.in-Some.is in
    (counted_set c.self.inside.kept.items c.args.self.now.pinned c.args.version c.in-Some.i (c.index_mut.result.now.pins - 1) c.index_mut.result.now (ap (λ l. l.pinned) c.self.view_is) place c.index_mut.ensures.value).1
