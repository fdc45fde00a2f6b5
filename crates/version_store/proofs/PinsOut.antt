-- How many pins of a version are out, and one more entry.
use Rattle.std.proofs.Common.{◌≡◌, ℕ, zero, suc, ◌+◌, ◌-◌, ◌<◌, ◌≤◌, Bool, false, ◌&&◌, cond, eqb, List, [], ◌∷◌, ◌++◌, length, take, get_or, Some, subst, refl, ap, inl, inr, ◌∙◌, arith, length-append}
use Rattle.std.specs.List.{slice_get}
use Rattle.std.proofs.lemmas.Bool.{cases_Bool, and_parts, eqb-true, ne_eqb}
use Rattle.std.proofs.lemmas.List.{take_all, take_more}
use Rattle.std.proofs.lemmas.List.Sums.{sum_by-append, sum_by-cons}
use Rattle.std.proofs.lemmas.Option.{slice_get-get_or}
use Rattle.view_meaning.specs.Classes as meaning
use Rattle.version_store.specs.declared.history.What.{What}
use Rattle.version_store.specs.declared.history.What.TheVariants.{Publish, Pin, Unpin}
use Rattle.version_store.specs.declared.history.Entry.{Entry}
use Rattle.version_store.specs.Histories.{edit_in, journal, numbered, is_pin, is_unpin, how_many, HasPinned, IsLegal, pins_out}
use Rattle.version_store.proofs.HistoryLaws.{entry_by, numbered-append, how_many_by, once, pins-publish, pins-pin, pins-unpin, unpins-publish, unpins-pin, unpins-unpin}
use Rattle.version_store.proofs.HeldLaws.{how_many-le, how_many-lt}

-- how many entries of all callers are such
abbrev pub how_many_all : (What → ℕ → Bool) → List Entry → ℕ
how_many_all test h = how_many test (numbered 0 h)

pub how_many_all-push : (test : What → ℕ → Bool) (h : List Entry) (by : ℕ) (what : What)
    → how_many_all test (h ++ entry_by by what ∷ []) ≡ how_many_all test h + cond (test what (length (journal h) + length (edit_in what))) 1 0
unfolding numbered
how_many_all-push test h by what =
    let same : 0 + length (journal h) ≡ length (journal h) = omega arith in
    let one : (n : ℕ) → how_many test ((entry_by by what, n) ∷ []) ≡ cond (test what n) 1 0 = λ n. omega arith in
    ap (how_many test) (numbered-append 0 h (entry_by by what ∷ []) ∙ ap (λ (n : ℕ). numbered 0 h ++ numbered n (entry_by by what ∷ [])) same)
    ∙ sum_by-append (λ (at : Entry × ℕ). cond (test at.0.what at.1) 1 0) (numbered 0 h) (numbered (length (journal h)) (entry_by by what ∷ []))
    ∙ ap (λ (more : ℕ). how_many_all test h + more) (one (length (journal h) + length (edit_in what)))

-- one more entry, by which a caller gives back only what it has pinned
given-push : (who v by : ℕ) (g : List Entry) (what : What) → how_many_by (is_unpin v) who g ≤ how_many_by (is_pin v) who g
    → ((u : ℕ) → what ≡ Unpin u → HasPinned g by u) → how_many_by (is_unpin v) who (g ++ entry_by by what ∷ []) ≤ how_many_by (is_pin v) who (g ++ entry_by by what ∷ [])
given-push who v by g (Publish edit) before own = omega (arith, before, unpins-publish who v by edit g, pins-publish who v by edit g)
given-push who v by g Pin before own = omega (arith, before, unpins-pin who v by g, pins-pin who v by g)
given-push who v by g (Unpin u) before own = elim (cases_Bool (eqb by who && eqb u v)) as (λ _. how_many_by (is_unpin v) who (g ++ entry_by by (Unpin u) ∷ []) ≤ how_many_by (is_pin v) who (g ++ entry_by by (Unpin u) ∷ [])) [
  | inl one ↦
      let same = and_parts (eqb by who) (eqb u v) one in
      let caller : by ≡ who = eqb-true by who same.0 in
      let version : u ≡ v = eqb-true u v same.1 in
      let less : HasPinned g who v = subst (λ w. HasPinned g who w) version (subst (λ w. HasPinned g w u) caller (own u refl)) in
      let counted : once by u who v ≡ 1 = rw one refl in
      omega (arith, less, counted, unpins-unpin who v by u g, pins-unpin who v by u g)
  | inr none ↦
      let counted : once by u who v ≡ 0 = rw none refl in
      omega (arith, before, counted, unpins-unpin who v by u g, pins-unpin who v by u g)
]

given-take : (h : List Entry) (who v : ℕ) → ((k by u : ℕ) → slice_get h k ≡ Some (entry_by by (Unpin u)) → HasPinned (take k h) by u)
    → (k : ℕ) → k ≤ length h → how_many_by (is_unpin v) who (take k h) ≤ how_many_by (is_pin v) who (take k h)
unfolding numbered
given-take h who v legal zero within = omega arith
given-take h who v legal (suc k) within =
    let entry : Entry = get_or h k (entry_by 0 Pin) in
    let inside : k < length h = omega arith in
    let here : slice_get h k ≡ Some entry = slice_get-get_or h k (entry_by 0 Pin) inside in
    let next : suc k ≡ k + 1 = omega arith in
    rw (next, take_more h k (entry_by 0 Pin) inside) (given-push who v entry.who (take k h) entry.what (given-take h who v legal k (omega arith))
    (λ u is. legal k entry.who u (here ∙ ap (λ what. Some (entry_by entry.who what)) is)))

-- in a legal history a caller gave back no more pins than it took
pub legal-given : (h : List Entry) (who v : ℕ) → IsLegal h → how_many_by (is_unpin v) who h ≤ how_many_by (is_pin v) who h
unfolding IsLegal
legal-given h who v legal = rw (take_all (length h) h (omega arith)) at (given-take h who v legal (length h) (omega arith))

-- nor did all of them
pub legal-given_all : (h : List Entry) (v : ℕ) → IsLegal h → how_many_all (is_unpin v) h ≤ how_many_all (is_pin v) h
legal-given_all h v legal = how_many-le (is_unpin v) (is_pin v) (numbered 0 h) (λ who. legal-given h who v legal)

-- what a caller has pinned is out
pub pins_out-pinned : (h : List Entry) (who v : ℕ) → IsLegal h → HasPinned h who v → 0 < pins_out h v
pins_out-pinned h who v legal pinned =
    let fewer : how_many_all (is_unpin v) h < how_many_all (is_pin v) h = how_many-lt (is_unpin v) (is_pin v) (numbered 0 h) (λ caller. legal-given h caller v legal) who pinned in
    omega arith

no_pins : (v a : ℕ) (h : List Entry) → a + length (journal h) < v → how_many (is_pin v) (numbered a h) ≡ 0
unfolding numbered journal
no_pins v a [] newer = refl
no_pins v a (entry ∷ h) newer =
    let n = a + length (edit_in entry.what) in
    let whole = length-append (edit_in entry.what) (journal h) in
    let others : how_many (is_pin v) (numbered n h) ≡ 0 = no_pins v n h (omega (arith, newer, whole)) in
    let other : eqb n v ≡ false = ne_eqb n v (λ same. absurd (omega (arith, newer, whole))) in
    let one : ◌≡◌ {A = ℕ} (cond (is_pin v entry.what n) 1 0) 0 = at_none entry.what n other in
    omega (arith, sum_by-cons (λ (at : Entry × ℕ). cond (is_pin v at.0.what at.1) 1 0) (entry, n) (numbered n h), others, one)
  where
    at_none : (what : What) (n : ℕ) → eqb n v ≡ false → ◌≡◌ {A = ℕ} (cond (is_pin v what n) 1 0) 0
    at_none (Publish edit) n other = refl
    at_none Pin n other = rw other refl
    at_none (Unpin u) n other = refl

-- of a version that is not published yet there are none
pub pins_out-newer : (h : List Entry) (v : ℕ) → length (journal h) < v → pins_out h v ≡ 0
pins_out-newer h v newer = omega (arith, no_pins v 0 h (omega arith))

pub pins_out-publish : (h : List Entry) (by v : ℕ) (edit : meaning.Edit) → pins_out (h ++ entry_by by (Publish edit) ∷ []) v ≡ pins_out h v
pins_out-publish h by v edit = omega (arith, how_many_all-push (is_pin v) h by (Publish edit), how_many_all-push (is_unpin v) h by (Publish edit))

pub pins_out-pin : (h : List Entry) (by v : ℕ) → IsLegal h → pins_out (h ++ entry_by by Pin ∷ []) v ≡ pins_out h v + cond (eqb (length (journal h)) v) 1 0
pins_out-pin h by v legal =
    let n = length (journal h) in
    let same : n + 0 ≡ n = omega arith in
    let pins : how_many_all (is_pin v) (h ++ entry_by by Pin ∷ []) ≡ how_many_all (is_pin v) h + cond (eqb n v) 1 0 = how_many_all-push (is_pin v) h by Pin ∙ ap (λ m. how_many_all (is_pin v) h + cond (eqb m v) 1 0) same in
    omega (arith, pins, how_many_all-push (is_unpin v) h by Pin, legal-given_all h v legal)

pub pins_out-unpin : (h : List Entry) (by v u : ℕ) → pins_out (h ++ entry_by by (Unpin u) ∷ []) v ≡ pins_out h v - cond (eqb u v) 1 0
pins_out-unpin h by v u = omega (arith, how_many_all-push (is_pin v) h by (Unpin u), how_many_all-push (is_unpin v) h by (Unpin u))
