-- What a store keeps, after one more entry.
use Rattle.std.proofs.Common.{◌≡◌, ℕ, suc, ◌<◌, ◌≤◌, Bool, true, false, cond, nat_lt, List, [], ◌∷◌, length, map, get_or, Some, None, subst, refl, sym, ap, ◌∙◌, arith}
use Rattle.std.specs.List.{position, position_or_len}
use Rattle.std.specs.Arc.{arc_value}
use Rattle.std.proofs.lemmas.Bool.{eqb-true, eqb-false, ltb-false}
use Rattle.std.proofs.lemmas.List.{length-map, take_all, get_or-map, get_or_default}
use Rattle.std.proofs.lemmas.List.Elements.{All-get_or}
use Rattle.std.proofs.lemmas.List.Sums.{get_or-le-sum_by, fails_before_first}
use Rattle.std.proofs.lemmas.List.Quantifiers.{position-Some}
use Rattle.view_meaning.specs.Classes as meaning
use Rattle.version_store.specs.declared.history.Entry.{Entry}
use Rattle.version_store.specs.declared.held.Held.{Held}
use Rattle.version_store.specs.Histories.{journal, held, pins_out, HasPinned}
use Rattle.version_store.specs.Store.{Stored, Pinned, is_version, shown, IsVersion, IsKept}
use Rattle.version_store.proofs.PinsOut.{pins_out-pinned}
use Rattle.version_store.proofs.HeldPush.{held-at, held-has, length-held, held-last}

-- what is shown of the one at a place
shown-at : (helds : List Held) (i : ℕ) (it : Held) (d : ℕ × ℕ) → i < length helds → it ≡ get_or helds i it → get_or (map shown helds) i d ≡ (it.version, it.pins)
shown-at helds i it d within is = get_or-map shown helds i it d within ∙ ap shown (sym is)

first_of : (helds : List Held) → 0 < length helds → Held
first_of [] some = absurd (omega arith)
first_of (it ∷ helds) some = it

missed : (test : Held → Bool) (helds : List Held) → position test helds ≡ None → length helds ≤ position_or_len test helds
missed test helds none = by_case (nat_lt (position_or_len test helds) (length helds)) refl none
  where
    by_case : (b : Bool) → nat_lt (position_or_len test helds) (length helds) ≡ b → cond b (Some (position_or_len test helds)) None ≡ None → length helds ≤ position_or_len test helds
    by_case true past found = absurd (cc found)
    by_case false past found = ltb-false (position_or_len test helds) (length helds) past

-- the place of a version of which so many pins are out, and at least one
pub record IsPlace (helds : List Held) (v i : ℕ) (it : Held) (out : ℕ) : Type 0 where
  pub within : i < length helds
  pub version : it.version ≡ v
  pub pins : it.pins ≡ out
  pub some : 0 < out

module _ (b : List ℕ) (h : List Entry) (helds : List Held) (out spare : ℕ) (kept : IsKept b h helds out spare) where
  pub length-helds : length helds ≡ length (held h)
  length-helds = sym (length-map helds shown) ∙ ap length kept.versions

  -- there is one, the newest
  pub one_held : 0 < length helds
  one_held = omega (arith, length-helds, length-held h)

  pub at_place : (i : ℕ) (it : Held) (d : ℕ × ℕ) → i < length helds → it ≡ get_or helds i it → get_or (held h) i d ≡ (it.version, it.pins)
  at_place i it d within is = ap (λ l. get_or l i d) (sym kept.versions) ∙ shown-at helds i it d within is

  pub version_of : (i : ℕ) (it : Held) → i < length helds → it ≡ get_or helds i it → IsVersion b (journal h) it
  version_of i it within is = subst (IsVersion b (journal h)) (sym is) (All-get_or (IsVersion b (journal h)) helds i it within kept.each)

  -- the last is the newest, with its pins
  newest_at : (i : ℕ) (it : Held) → suc i ≡ length helds → it ≡ get_or helds i it → ◌≡◌ {A = ℕ × ℕ} (it.version, it.pins) (length (journal h), pins_out h (length (journal h)))
  newest_at i it last is = sym (at_place i it (0, 0) (omega arith) is) ∙ held-last h i (0, 0) (omega (arith, last, length-helds))

  pub newest-version : (i : ℕ) (it : Held) → suc i ≡ length helds → it ≡ get_or helds i it → it.version ≡ length (journal h)
  newest-version i it last is = ap (λ (at : ℕ × ℕ). at.0) (newest_at i it last is)

  pub newest-pins : (i : ℕ) (it : Held) → suc i ≡ length helds → it ≡ get_or helds i it → it.pins ≡ pins_out h (length (journal h))
  newest-pins i it last is = ap (λ (at : ℕ × ℕ). at.1) (newest_at i it last is)

  pub newest-classes : (i : ℕ) (it : Held) → suc i ≡ length helds → it ≡ get_or helds i it → arc_value it.classes ≡ meaning.classes b (journal h)
  newest-classes i it last is =
      let version : it.version ≡ length (journal h) = newest-version i it last is in
      (version_of i it (omega arith) is).classes ∙ ap (meaning.classes b) (take_all it.version (journal h) (omega arith))

  pub pins-few : (i : ℕ) (it : Held) → i < length helds → it ≡ get_or helds i it → it.pins ≤ out
  pins-few i it within is = omega (arith, get_or-le-sum_by (λ (at : Held). at.pins) helds i it within, ap (λ (at : Held). at.pins) is, kept.pins)

  -- a version that a caller has pinned has a place
  pub place_found : (who v : ℕ) → HasPinned h who v → position (is_version v) helds ≡ None → ⊥
  place_found who v pinned none =
      let row = held-has h v (0, 0) (pins_out-pinned h who v kept.legal pinned) in
      let within : row.0 < length helds = omega (arith, row.1, length-helds) in
      let d : Held = first_of helds one_held in
      let here : (get_or helds row.0 d).version ≡ v = ap (λ (at : ℕ × ℕ). at.0) (sym (get_or-map shown helds row.0 d (0, 0) within) ∙ ap (λ l. get_or l row.0 (0, 0)) kept.versions ∙ row.2) in
      eqb-false (get_or helds row.0 d).version v (fails_before_first (is_version v) helds row.0 d (omega (arith, within, missed (is_version v) helds none))) here

  -- so a pin is out
  pub some_out : (who v : ℕ) → HasPinned h who v → 0 < out
  some_out who v pinned =
      let row = held-has h v (0, 0) (pins_out-pinned h who v kept.legal pinned) in
      let within : row.0 < length helds = omega (arith, row.1, length-helds) in
      let d : Held = first_of helds one_held in
      let here : (get_or helds row.0 d).pins ≡ pins_out h v = ap (λ (at : ℕ × ℕ). at.1) (sym (get_or-map shown helds row.0 d (0, 0) within) ∙ ap (λ l. get_or l row.0 (0, 0)) kept.versions ∙ row.2) in
      omega (arith, here, pins_out-pinned h who v kept.legal pinned, get_or-le-sum_by (λ (at : Held). at.pins) helds row.0 d within, kept.pins)

  -- and its version's pins stand at its place
  pub place-pins : (who v i : ℕ) (it : Held) → HasPinned h who v → position (is_version v) helds ≡ Some i → it ≡ get_or helds i it → IsPlace helds v i it (pins_out h v)
  place-pins who v i it pinned found is =
      let at = position-Some (is_version v) helds i it found in
      let version : it.version ≡ v = ap (λ (one : Held). one.version) is ∙ eqb-true (get_or helds i it).version v at.1 in
      let pins : it.pins ≡ pins_out h it.version = (held-at h i it.version it.pins (0, 0) (omega (arith, at.0, length-helds)) (at_place i it (0, 0) at.0 is)).1 in
      record { within = at.0; version = version; pins = pins ∙ ap (pins_out h) version; some = pins_out-pinned h who v kept.legal pinned }

-- what is read twice at a place
pub same_read : (helds : List Held) (i : ℕ) (one other : Held) → i < length helds → one ≡ get_or helds i one → other ≡ get_or helds i other → one ≡ other
same_read helds i one other within first second = first ∙ get_or_default helds i one other within ∙ sym second

-- what is asked of a store and a pin is so of what is in them
pub pinned_inside : (inside now : Stored) (own pin : Pinned) (who : ℕ) → inside ≡ now → own ≡ pin → HasPinned now.history who pin.version → HasPinned inside.history who own.version
pinned_inside inside now own pin who store is pinned =
    subst (λ (p : Pinned). HasPinned inside.history who p.version) (sym is) (subst (λ (s : Stored). HasPinned s.history who pin.version) (sym store) pinned)
