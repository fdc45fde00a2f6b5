-- Pins that callers have, each of which the history owes: it has been taken and not given back.
use Rattle.std.proofs.Common.{◌≡◌, ℕ, ◌<◌, ◌&&◌, cond, eqb, List, [], ◌∷◌, ◌++◌, length, get_or, refl, ap, ◌∙◌, arith}
use Rattle.std.specs.List.{swap_remove}
use Rattle.std.proofs.lemmas.Bool.{eq-eqb}
use Rattle.std.proofs.lemmas.List.Sums.{sum_by_push, sum_by-swap_remove, get_or-le-sum_by}
use Rattle.view_meaning.specs.Classes as meaning
use Rattle.version_store.specs.declared.history.What.TheVariants.{Publish, Pin, Unpin}
use Rattle.version_store.specs.declared.history.Entry.{Entry}
use Rattle.version_store.specs.Histories.{journal, numbered, HasPinned}
use Rattle.version_store.specs.Store.{Pinned}
use Rattle.unit_versions.specs.Owed.{IsOwed}
use Rattle.version_store.proofs.HistoryLaws.{entry_by, pins-publish, pins-pin, pins-unpin, unpins-publish, unpins-pin, unpins-unpin}

-- 1 where the pin is of this version and caller
abbrev counts : ℕ → ℕ → Pinned → ℕ
counts who v pin = cond (eqb pin.who who && eqb pin.version v) 1 0

pub IsOwed-publish : (h : List Entry) (pins : List Pinned) (by : ℕ) (edit : meaning.Edit) → IsOwed h pins → IsOwed (h ++ entry_by by (Publish edit) ∷ []) pins
IsOwed-publish h pins by edit owed who v = omega (arith, owed who v, pins-publish who v by edit h, unpins-publish who v by edit h)

pub IsOwed-pin : (h : List Entry) (pins : List Pinned) (by : ℕ) (pin : Pinned) → IsOwed h pins → pin.who ≡ by → pin.version ≡ length (journal h) → IsOwed (h ++ entry_by by Pin ∷ []) (pins ++ pin ∷ [])
IsOwed-pin h pins by pin owed caller version who v =
    let one : counts who v pin ≡ cond (eqb by who && eqb (length (journal h)) v) 1 0 = ap (λ n. cond (eqb n who && eqb pin.version v) 1 0) caller ∙ ap (λ n. cond (eqb by who && eqb n v) 1 0) version in
    omega (arith, owed who v, one, sum_by_push (counts who v) pins pin, pins-pin who v by h, unpins-pin who v by h)

pub owed-pinned : (h : List Entry) (pins : List Pinned) (i : ℕ) (pin : Pinned) → IsOwed h pins → i < length pins → pin ≡ get_or pins i pin → HasPinned h pin.who pin.version
owed-pinned h pins i pin owed within is =
    let one : counts pin.who pin.version pin ≡ 1 = rw (eq-eqb pin.who pin.who refl, eq-eqb pin.version pin.version refl) refl in
    omega (arith, owed pin.who pin.version, one, ap (counts pin.who pin.version) is, get_or-le-sum_by (counts pin.who pin.version) pins i pin within)

pub IsOwed-unpin : (h : List Entry) (pins : List Pinned) (i : ℕ) (pin : Pinned) → IsOwed h pins → i < length pins → pin ≡ get_or pins i pin
    → IsOwed (h ++ entry_by pin.who (Unpin pin.version) ∷ []) (swap_remove pins i pin)
IsOwed-unpin h pins i pin owed within is who v =
    omega (arith, owed who v, ap (counts who v) is, sum_by-swap_remove (counts who v) pins i pin within, pins-unpin who v pin.who pin.version h, unpins-unpin who v pin.who pin.version h)

pub IsOwed-nil : IsOwed [] []
unfolding numbered
IsOwed-nil who v = omega arith
