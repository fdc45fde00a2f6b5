use mir.Val.{bool_byte}
use Rattle.std.proofs.Common.{◌≡◌, suc, ◌+◌, ◌-◌, Bool, true, false, cond, nat_lt, List, [], ◌∷◌, ◌++◌, length, get_or, subst, refl, sym, ap, ◌∙◌, arith}
use Rattle.std.proofs.lemmas.List.{length_push}
use Rattle.version_store.specs.declared.held.Held.{Held}
use Rattle.version_store.specs.declared.history.Entry.{Entry}
use Rattle.version_store.specs.Histories.{journal}
use Rattle.version_store.specs.Store.{Stored, IsVersion}
use Rattle.version_store.proofs.HistoryLaws.{length-journal, journal-publish, IsLegal-publish}
use Rattle.version_store.proofs.Keeping.{one_held}
use Rattle.version_store.proofs.KeptAfter.{IsVersion-more, IsKept-publish}
use Rattle.version_store.proofs.store.Store.publish_made.Goals as goal

one_if : (b : Bool) → bool_byte b ≡ cond b 1 0
one_if true = refl
one_if false = refl

pub overflow_add-version : goal.overflow_add-version
overflow_add-version c = omega (arith, c.in_ok-reserve.ensures.ok, length-journal c.reserve.new.self.items)

pub overflow_sub-last : goal.overflow_sub-last
overflow_sub-last c = omega (arith, one_held _ _ _ _ _ c.self.invariant)

pub index-requires : goal.index-requires
index-requires c = omega (arith, one_held _ _ _ _ _ c.self.invariant)

pub invariant_of-self-3 : goal.invariant_of-self-3
invariant_of-self-3 c =
    let current : c.current-version.result ≡ length (journal c.self.inside.history.items) = c.current-version.ensures ∙ ap (λ (l : List Entry). length (journal l)) c.reserve.ensures.items in
    let last : suc (c.len-last.result - 1) ≡ length c.self.inside.held.items = omega (arith, one_held _ _ _ _ _ c.self.invariant) in
    let made : Held = record { version = c.current-version.result + 1; pins = 0; classes = c.args.classes } in
    let version : IsVersion c.args.self.now.bytes (journal c.args.self.now.history ++ c.args.edit.now ∷ []) made =
    IsVersion-more _ _ _ made (ap (λ n. n + 1) current ∙ ap (λ (s : Stored). length (journal s.history) + 1) c.self.view_is) c.requires.classes c.requires.size c.requires.top in
    let own : IsVersion c.self.inside.survey (journal c.self.inside.history.items ++ c.args.edit.now ∷ []) made =
    subst (λ (s : Stored). IsVersion s.bytes (journal s.history ++ c.args.edit.now ∷ []) made) (sym c.self.view_is) version in
    let here : c.index.result.now ≡ get_or c.self.inside.held.items (c.len-last.result - 1) c.index.result.now = c.index.ensures ∙ ap (λ l. get_or l (c.len-last.result - 1) c.index.result.now) c.reserve-2.ensures.items in
    let left : c.from.result ≡ cond (nat_lt 0 c.index.result.now.pins) 1 0 = c.from.ensures ∙ one_if (nat_lt 0 c.index.result.now.pins) in
    rw (rw c.reserve.ensures.items at c.append.ensures.items, rw (c.unwrap.ensures, c.truncate.ensures.items, c.reserve-2.ensures.items, left) at c.push.ensures.items)
    (IsKept-publish _ _ _ _ _ (c.len-last.result - 1) c.args.who _ c.args.edit.now c.index.result.now made c.self.invariant last here (ap (λ n. n + 1) current) refl own (omega (arith, c.in_ok-reserve.ensures.ok)))

pub returns-clause-version : goal.returns-clause-version
returns-clause-version c =
    let current : c.current-version.result ≡ length (journal c.self.inside.history.items) = c.current-version.ensures ∙ ap (λ (l : List Entry). length (journal l)) c.reserve.ensures.items in
    rw (rw c.reserve.ensures.items at c.append.ensures.items)
    (ap (λ n. n + 1) current ∙ sym (ap length (journal-publish c.self.inside.history.items c.args.who c.args.edit.now) ∙ length_push (journal c.self.inside.history.items) c.args.edit.now))

pub returns-clause-legal : goal.returns-clause-legal
returns-clause-legal c = rw (rw c.reserve.ensures.items at c.append.ensures.items) (IsLegal-publish c.args.who c.args.edit.now c.self.inside.history.items c.self.invariant.legal)
