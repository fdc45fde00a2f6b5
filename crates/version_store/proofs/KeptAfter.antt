-- What a store keeps holds after one more entry.
use Rattle.std.proofs.Common.{◌≡◌, ℕ, suc, ◌+◌, ◌-◌, ◌≤◌, Bool, true, false, ◌||◌, cond, eqb, nat_lt, List, [], ◌∷◌, ◌++◌, length, map, take, drop, get_or, set, Some, subst, refl, sym, ap, inl, inr, ◌∙◌, arith, length-append}
use Rattle.std.specs.List.{All, position, remove, sum_by}
use Rattle.std.specs.Arc.{arc_value}
use Rattle.std.proofs.lemmas.Bool.{cases_lt, ltb-false, lt-ltb, le-ltb}
use Rattle.std.proofs.lemmas.List.{map_push, map-set, map-append, take-map, drop-map, take_all, take-append-le, length_push}
use Rattle.std.proofs.lemmas.List.Elements.{All-nil, All-cons, All-push, All-set, All-take, All-drop, All-append, All-weaker}
use Rattle.std.proofs.lemmas.List.Sums.{sum_by_push, sum_by-set, sum_by-remove, sum_by_more}
use Rattle.class_pages.specs.Fitting.{EachFits}
use Rattle.view_meaning.specs.Survey.{record_count, format_of}
use Rattle.view_meaning.specs.Classes as meaning
use Rattle.version_store.specs.declared.history.What.TheVariants.{Publish, Pin, Unpin}
use Rattle.version_store.specs.declared.history.Entry.{Entry}
use Rattle.version_store.specs.declared.held.Held.{Held}
use Rattle.version_store.specs.Histories.{journal, numbered, held, pins_out, HasPinned}
use Rattle.version_store.specs.Store.{is_version, shown, IsVersion, IsKept}
use Rattle.version_store.proofs.HistoryLaws.{entry_by, journal-publish, journal-pin, journal-unpin, IsLegal-none, IsLegal-publish, IsLegal-pin, IsLegal-unpin}
use Rattle.version_store.proofs.HeldPush.{held-pin, held-publish, held-unpin}
use Rattle.version_store.proofs.Keeping.{length-helds, version_of, at_place, newest-version, newest-pins, place-pins}

-- with other pins
abbrev pub with_pins : Held → ℕ → Held
with_pins it pins = record { version = it.version; pins = pins; classes = it.classes }

-- a version of a journal is one of each longer one
longer : (b : List ℕ) (edits more : List meaning.Edit) (it : Held) → IsVersion b edits it → IsVersion b (edits ++ more) it
longer b edits more it version = record {
  known = omega (arith, version.known, length-append edits more);
  classes = version.classes ∙ ap (meaning.classes b) (sym (take-append-le it.version edits more version.known));
  size = version.size;
  top = version.top;
}

-- the version that an edit makes
pub IsVersion-more : (b : List ℕ) (edits : List meaning.Edit) (edit : meaning.Edit) (made : Held) → made.version ≡ length edits + 1 → arc_value made.classes ≡ meaning.classes b (edits ++ edit ∷ [])
    → length (arc_value made.classes) ≡ record_count b → EachFits (format_of b) (arc_value made.classes) → IsVersion b (edits ++ edit ∷ []) made
IsVersion-more b edits edit made next classes size top = record {
  known = omega (arith, next, length_push edits edit);
  classes = classes ∙ ap (meaning.classes b) (sym (take_all made.version (edits ++ edit ∷ []) (omega (arith, next, length_push edits edit))));
  size = size;
  top = top;
}

-- the version of a file's own classes
pub IsVersion-first : (b : List ℕ) (made : Held) → made.version ≡ 0 → arc_value made.classes ≡ meaning.classes b [] → length (arc_value made.classes) ≡ record_count b
    → EachFits (format_of b) (arc_value made.classes) → IsVersion b [] made
IsVersion-first b made first classes size top = record { known = omega arith; classes = classes ∙ ap (λ n. meaning.classes b (take n [])) (sym first); size = size; top = top }

-- all but the last, and the last where it is to stay
take_stays : {X : Type 0} (xs : List X) (i : ℕ) (stays : Bool) → suc i ≡ length xs → take (i + cond stays 1 0) xs ≡ cond stays xs (take i xs)
take_stays xs i true last = take_all (i + 1) xs (omega arith)
take_stays xs i false last = let same : i + 0 ≡ i = omega arith in ap (λ n. take n xs) same

-- the pins of all but the last, where it has none
sum_stays : (helds : List Held) (i : ℕ) (it : Held) (stays : Bool) → suc i ≡ length helds → it ≡ get_or helds i it → nat_lt 0 it.pins ≡ stays
    → sum_by (λ (at : Held). at.pins) (cond stays helds (take i helds)) ≡ sum_by (λ (at : Held). at.pins) helds
sum_stays helds i it true last is pins = refl
sum_stays helds i it false last is pins =
    let all : take (i + 1) helds ≡ helds = take_all (i + 1) helds (omega arith) in
    let none : it.pins ≤ 0 = ltb-false 0 it.pins pins in
    omega (arith, none, ap (sum_by (λ (at : Held). at.pins)) (sym all) ∙ sum_by_more (λ (at : Held). at.pins) helds i it (omega arith), ap (λ (at : Held). at.pins) is)

pub IsKept-publish : (b : List ℕ) (h : List Entry) (helds : List Held) (out spare i by more : ℕ) (edit : meaning.Edit) (it made : Held) → IsKept b h helds out spare
    → suc i ≡ length helds → it ≡ get_or helds i it → made.version ≡ length (journal h) + 1 → made.pins ≡ 0 → IsVersion b (journal h ++ edit ∷ []) made → out ≤ more
    → IsKept b (h ++ entry_by by (Publish edit) ∷ []) (take (i + cond (nat_lt 0 it.pins) 1 0) helds ++ made ∷ []) out more
IsKept-publish b h helds out spare i by more edit it made kept last is next none version room =
    let stays = nat_lt 0 it.pins in
    let left : take (i + cond stays 1 0) helds ≡ cond stays helds (take i helds) = take_stays helds i stays last in
    let newest : it.pins ≡ pins_out h (length (journal h)) = newest-pins b h helds out spare kept i it last is in
    let last_held : suc i ≡ length (held h) = omega (arith, last, length-helds b h helds out spare kept) in
    let row : shown made ≡ (length (journal h) + 1, 0) = ap (λ n. (n, made.pins)) next ∙ ap (λ n. (length (journal h) + 1, n)) none in
    record {
      legal = IsLegal-publish by edit h kept.legal;
      versions = map_push shown (take (i + cond stays 1 0) helds) made
          ∙ ap (λ l. l ++ shown made ∷ []) (sym (take-map shown (i + cond stays 1 0) helds) ∙ ap (take (i + cond stays 1 0)) kept.versions ∙ take_stays (held h) i stays last_held)
          ∙ ap (λ n. cond (nat_lt 0 n) (held h) (take i (held h)) ++ shown made ∷ []) newest
          ∙ ap (λ (at : ℕ × ℕ). cond (nat_lt 0 (pins_out h (length (journal h)))) (held h) (take i (held h)) ++ at ∷ []) row
          ∙ sym (held-publish h by i edit last_held);
      each = subst (λ edits. All (IsVersion b edits) (take (i + cond stays 1 0) helds ++ made ∷ [])) (sym (journal-publish h by edit))
          (All-push (IsVersion b (journal h ++ edit ∷ [])) (take (i + cond stays 1 0) helds) made
          (All-take (IsVersion b (journal h ++ edit ∷ [])) (i + cond stays 1 0) helds (All-weaker (IsVersion b (journal h)) (IsVersion b (journal h ++ edit ∷ [])) (λ at. longer b (journal h) (edit ∷ []) at) helds kept.each)) version);
      pins = omega (arith, sum_by_push (λ (at : Held). at.pins) (take (i + cond stays 1 0) helds) made, none, ap (sum_by (λ (at : Held). at.pins)) left ∙ sum_stays helds i it stays last is refl, kept.pins);
      made = omega (arith, kept.made, length_push h (entry_by by (Publish edit)));
      room = room;
    }

pub IsKept-pin : (b : List ℕ) (h : List Entry) (helds : List Held) (out spare i by more : ℕ) (it : Held) → IsKept b h helds out spare
    → suc i ≡ length helds → it ≡ get_or helds i it → out + 1 ≤ more
    → IsKept b (h ++ entry_by by Pin ∷ []) (set helds i (with_pins it (it.pins + 1))) (out + 1) more
IsKept-pin b h helds out spare i by more it kept last is room =
    let newest : it.pins ≡ pins_out h (length (journal h)) = newest-pins b h helds out spare kept i it last is in
    let version : it.version ≡ length (journal h) = newest-version b h helds out spare kept i it last is in
    let last_held : suc i ≡ length (held h) = omega (arith, last, length-helds b h helds out spare kept) in
    let one = version_of b h helds out spare kept i it (omega arith) is in
    record {
      legal = IsLegal-pin by h kept.legal;
      versions = map-set shown helds i (with_pins it (it.pins + 1))
          ∙ ap (λ l. set l i (it.version, it.pins + 1)) kept.versions
          ∙ ap (λ v. set (held h) i (v, it.pins + 1)) version
          ∙ ap (λ n. set (held h) i (length (journal h), n + 1)) newest
          ∙ sym (held-pin h by i kept.legal last_held);
      each = subst (λ edits. All (IsVersion b edits) (set helds i (with_pins it (it.pins + 1)))) (sym (journal-pin h by))
          (All-set (IsVersion b (journal h)) helds i (with_pins it (it.pins + 1)) (record { known = one.known; classes = one.classes; size = one.size; top = one.top }) kept.each);
      pins = omega (arith, sum_by-set (λ (at : Held). at.pins) helds i (with_pins it (it.pins + 1)) it (omega arith), ap (λ (at : Held). at.pins) is, kept.pins);
      made = omega (arith, kept.made, length_push h (entry_by by Pin));
      room = room;
    }

-- at least one more once one is gone
lt_less : (x : ℕ) → nat_lt 0 (x - 1) ≡ nat_lt 1 x
lt_less x = elim (cases_lt 1 x) as (λ _. nat_lt 0 (x - 1) ≡ nat_lt 1 x) [
  | inl more ↦ lt-ltb 0 (x - 1) (omega arith) ∙ sym (lt-ltb 1 x more)
  | inr less ↦ le-ltb 0 (x - 1) (omega arith) ∙ sym (le-ltb 1 x less)
]

-- whether a version is held once one of its pins is given back
abbrev pub stays : List Entry → ℕ → Held → Bool
stays h v it = eqb v (length (journal h)) || nat_lt 1 it.pins

held-given : (b : List ℕ) (h : List Entry) (helds : List Held) (out spare i who v : ℕ) (it : Held) (kept : IsKept b h helds out spare) → HasPinned h who v
    → position (is_version v) helds ≡ Some i → it ≡ get_or helds i it → held (h ++ entry_by who (Unpin v) ∷ []) ≡ cond (stays h v it) (set (held h) i (v, it.pins - 1)) (remove (held h) i)
held-given b h helds out spare i who v it kept pinned found is =
    let place = place-pins b h helds out spare kept who v i it pinned found is in
    let here : get_or (held h) i (0, 0) ≡ (v, it.pins) = at_place b h helds out spare kept i it (0, 0) place.within is ∙ ap (λ u. (u, it.pins)) place.version in
    held-unpin h who i v it.pins (0, 0) (omega (arith, place.within, length-helds b h helds out spare kept)) here
    ∙ ap (λ t. cond (eqb v (length (journal h)) || t) (set (held h) i (v, it.pins - 1)) (remove (held h) i)) (lt_less it.pins)

pub IsKept-unpin : (b : List ℕ) (h : List Entry) (helds : List Held) (out spare i who v more : ℕ) (it : Held) → IsKept b h helds out spare → HasPinned h who v
    → position (is_version v) helds ≡ Some i → it ≡ get_or helds i it → stays h v it ≡ true → out ≤ more + 1
    → IsKept b (h ++ entry_by who (Unpin v) ∷ []) (set helds i (with_pins it (it.pins - 1))) (out - 1) more
IsKept-unpin b h helds out spare i who v more it kept pinned found is stay room =
    let place = place-pins b h helds out spare kept who v i it pinned found is in
    let one = version_of b h helds out spare kept i it place.within is in
    record {
      legal = IsLegal-unpin who v h kept.legal pinned;
      versions = map-set shown helds i (with_pins it (it.pins - 1))
          ∙ ap (λ l. set l i (it.version, it.pins - 1)) kept.versions
          ∙ ap (λ u. set (held h) i (u, it.pins - 1)) place.version
          ∙ sym (held-given b h helds out spare i who v it kept pinned found is ∙ ap (λ t. cond t (set (held h) i (v, it.pins - 1)) (remove (held h) i)) stay);
      each = subst (λ edits. All (IsVersion b edits) (set helds i (with_pins it (it.pins - 1)))) (sym (journal-unpin h who v))
          (All-set (IsVersion b (journal h)) helds i (with_pins it (it.pins - 1)) (record { known = one.known; classes = one.classes; size = one.size; top = one.top }) kept.each);
      pins = omega (arith, sum_by-set (λ (at : Held). at.pins) helds i (with_pins it (it.pins - 1)) it place.within, ap (λ (at : Held). at.pins) is, place.some, place.pins, kept.pins);
      made = omega (arith, kept.made, length_push h (entry_by who (Unpin v)));
      room = omega arith;
    }

pub IsKept-unpin_last : (b : List ℕ) (h : List Entry) (helds : List Held) (out spare i who v more : ℕ) (it : Held) → IsKept b h helds out spare → HasPinned h who v
    → position (is_version v) helds ≡ Some i → it ≡ get_or helds i it → stays h v it ≡ false → out ≤ more + 1
    → IsKept b (h ++ entry_by who (Unpin v) ∷ []) (remove helds i) (out - 1) more
IsKept-unpin_last b h helds out spare i who v more it kept pinned found is gone room =
    let place = place-pins b h helds out spare kept who v i it pinned found is in
    let one : it.pins ≤ 1 = ltb-false 1 it.pins (or_false (eqb v (length (journal h))) (nat_lt 1 it.pins) gone) in
    record {
      legal = IsLegal-unpin who v h kept.legal pinned;
      versions = map-append shown (take i helds) (drop (suc i) helds)
          ∙ ap (λ l. l ++ map shown (drop (suc i) helds)) (sym (take-map shown i helds))
          ∙ ap (λ l. take i (map shown helds) ++ l) (sym (drop-map shown (suc i) helds))
          ∙ ap (λ l. remove l i) kept.versions
          ∙ sym (held-given b h helds out spare i who v it kept pinned found is ∙ ap (λ t. cond t (set (held h) i (v, it.pins - 1)) (remove (held h) i)) gone);
      each = subst (λ edits. All (IsVersion b edits) (remove helds i)) (sym (journal-unpin h who v))
          (All-append (IsVersion b (journal h)) (take i helds) (drop (suc i) helds) (All-take (IsVersion b (journal h)) i helds kept.each) (All-drop (IsVersion b (journal h)) (suc i) helds kept.each));
      pins = omega (arith, sum_by-remove (λ (at : Held). at.pins) helds i it place.within, ap (λ (at : Held). at.pins) is, one, place.some, place.pins, kept.pins);
      made = omega (arith, kept.made, length_push h (entry_by who (Unpin v)));
      room = omega arith;
    }
  where
    or_false : (x y : Bool) → (x || y) ≡ false → y ≡ false
    or_false true y same = absurd (cc same)
    or_false false y same = same

-- the store before any entry
pub IsKept-nil : (b : List ℕ) (spare : ℕ) (made : Held) → shown made ≡ (0, 0) → IsVersion b [] made → IsKept b [] (made ∷ []) 0 spare
unfolding held journal numbered
IsKept-nil b spare made row version = record {
  legal = IsLegal-none;
  versions = ap (λ (at : ℕ × ℕ). at ∷ []) row;
  each = All-cons (IsVersion b []) made [] version (All-nil (IsVersion b []));
  pins = let none : made.pins ≡ 0 = ap (λ (at : ℕ × ℕ). at.1) row in omega arith;
  made = omega arith;
  room = omega arith;
}
