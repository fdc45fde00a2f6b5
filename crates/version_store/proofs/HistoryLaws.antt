-- Histories over appends, and one more entry at their end.
use Rattle.std.proofs.Common.{◌≡◌, ℕ, ◌+◌, ◌<◌, ◌≤◌, Bool, true, false, ◌&&◌, cond, eqb, List, [], ◌∷◌, ◌++◌, length, take, Some, subst, refl, sym, ap, inl, inr, ◌∙◌, arith, length-append}
use Rattle.std.specs.List.{slice_get}
use Rattle.std.proofs.lemmas.Bool.{cases_lt, eq-eqb}
use Rattle.std.proofs.lemmas.List.{append-nil, take-append-le, take_at, get_or_append_left, get_or_push, length_push}
use Rattle.std.proofs.lemmas.List.Elements.{filter-append}
use Rattle.std.proofs.lemmas.List.Sums.{sum_by-append}
use Rattle.std.proofs.lemmas.Grind.{flat_map-append}
use Rattle.std.proofs.lemmas.Option.{slice_get-get_or, slice_get_within}
use Rattle.view_meaning.specs.Classes as meaning
use Rattle.version_store.specs.declared.history.What.{What}
use Rattle.version_store.specs.declared.history.What.TheVariants.{Publish, Pin, Unpin}
use Rattle.version_store.specs.declared.history.Entry.{Entry}
use Rattle.version_store.specs.Histories.{edit_in, journal, numbered, entries_by, is_pin, is_unpin, how_many, HasPinned, IsLegal, IsGivenBack}

pub journal-append : (h more : List Entry) → journal (h ++ more) ≡ journal h ++ journal more
unfolding journal
journal-append h more = flat_map-append (λ (entry : Entry). edit_in entry.what) h more

pub length-journal : (h : List Entry) → length (journal h) ≤ length h
unfolding journal
length-journal [] = omega arith
length-journal (entry ∷ h) =
    let one : length (edit_in entry.what) ≤ 1 = one_at_most entry.what in
    let others = length-journal h in
    omega (arith, length-append (edit_in entry.what) (journal h))
  where
    one_at_most : (what : What) → length (edit_in what) ≤ 1
    one_at_most (Publish edit) = omega arith
    one_at_most Pin = omega arith
    one_at_most (Unpin v) = omega arith

pub numbered-append : (v : ℕ) (h more : List Entry) → numbered v (h ++ more) ≡ numbered v h ++ numbered (v + length (journal h)) more
unfolding numbered journal
numbered-append v [] more = let same : v ≡ v + 0 = omega arith in ap (λ (n : ℕ). numbered n more) same
numbered-append v (entry ∷ h) more =
    let edits = edit_in entry.what in
    let n : ℕ = v + length edits in
    let same : n + length (journal h) ≡ v + length (edits ++ journal h) = omega (arith, length-append edits (journal h)) in
    ap (λ (others : List (Entry × ℕ)). (entry, n) ∷ others) (numbered-append n h more ∙ ap (λ (m : ℕ). numbered n h ++ numbered m more) same)

-- the entries of a caller in a longer history
pub entries_by-append : (who : ℕ) (h more : List Entry)
    → entries_by who (numbered 0 (h ++ more)) ≡ entries_by who (numbered 0 h) ++ entries_by who (numbered (length (journal h)) more)
entries_by-append who h more =
    let same : 0 + length (journal h) ≡ length (journal h) = omega arith in
    ap (entries_by who) (numbered-append 0 h more ∙ ap (λ (n : ℕ). numbered 0 h ++ numbered n more) same)
    ∙ filter-append (λ (at : Entry × ℕ). eqb at.0.who who) (numbered 0 h) (numbered (length (journal h)) more)

-- how many entries of a caller are such
abbrev pub how_many_by : (What → ℕ → Bool) → ℕ → List Entry → ℕ
how_many_by test who h = how_many test (entries_by who (numbered 0 h))

-- one entry, which is such or not, by this caller or not
how_many_one : (test : What → ℕ → Bool) (entry : Entry) (n : ℕ) (mine : Bool) → how_many test (cond mine ((entry, n) ∷ []) []) ≡ cond (mine && test entry.what n) 1 0
how_many_one test entry n true = omega arith
how_many_one test entry n false = refl

pub how_many_by-push : (test : What → ℕ → Bool) (who : ℕ) (h : List Entry) (entry : Entry)
    → how_many_by test who (h ++ entry ∷ []) ≡ how_many_by test who h + cond (eqb entry.who who && test entry.what (length (journal h) + length (edit_in entry.what))) 1 0
unfolding numbered
how_many_by-push test who h entry =
    let n = length (journal h) + length (edit_in entry.what) in
    ap (how_many test) (entries_by-append who h (entry ∷ []))
    ∙ sum_by-append (λ (at : Entry × ℕ). cond (test at.0.what at.1) 1 0) (entries_by who (numbered 0 h)) (entries_by who (numbered (length (journal h)) (entry ∷ [])))
    ∙ ap (λ (more : ℕ). how_many_by test who h + more) (how_many_one test entry n (eqb entry.who who))

-- an entry of a caller
abbrev pub entry_by : ℕ → What → Entry
entry_by who what = record { who = who; what = what }

pub journal-publish : (h : List Entry) (by : ℕ) (edit : meaning.Edit) → journal (h ++ entry_by by (Publish edit) ∷ []) ≡ journal h ++ edit ∷ []
unfolding journal
journal-publish h by edit = journal-append h (entry_by by (Publish edit) ∷ [])

pub journal-pin : (h : List Entry) (by : ℕ) → journal (h ++ entry_by by Pin ∷ []) ≡ journal h
unfolding journal
journal-pin h by = journal-append h (entry_by by Pin ∷ []) ∙ append-nil (journal h)

pub journal-unpin : (h : List Entry) (by v : ℕ) → journal (h ++ entry_by by (Unpin v) ∷ []) ≡ journal h
unfolding journal
journal-unpin h by v = journal-append h (entry_by by (Unpin v) ∷ []) ∙ append-nil (journal h)

-- how often a caller pins version v, or gives a pin of it back, by one entry of another for version n
abbrev pub once : ℕ → ℕ → ℕ → ℕ → ℕ
once by n who v = cond (eqb by who && eqb n v) 1 0

none_more : (count : ℕ) (mine : Bool) → count + cond (mine && false) 1 0 ≡ count
none_more count true = omega arith
none_more count false = omega arith

pub pins-pin : (who v by : ℕ) (h : List Entry) → how_many_by (is_pin v) who (h ++ entry_by by Pin ∷ []) ≡ how_many_by (is_pin v) who h + once by (length (journal h)) who v
pins-pin who v by h =
    let n = length (journal h) in
    let same : n + 0 ≡ n = omega arith in
    how_many_by-push (is_pin v) who h (entry_by by Pin) ∙ ap (λ (m : ℕ). how_many_by (is_pin v) who h + once by m who v) same

pub pins-unpin : (who v by u : ℕ) (h : List Entry) → how_many_by (is_pin v) who (h ++ entry_by by (Unpin u) ∷ []) ≡ how_many_by (is_pin v) who h
pins-unpin who v by u h = how_many_by-push (is_pin v) who h (entry_by by (Unpin u)) ∙ none_more (how_many_by (is_pin v) who h) (eqb by who)

pub pins-publish : (who v by : ℕ) (edit : meaning.Edit) (h : List Entry) → how_many_by (is_pin v) who (h ++ entry_by by (Publish edit) ∷ []) ≡ how_many_by (is_pin v) who h
pins-publish who v by edit h = how_many_by-push (is_pin v) who h (entry_by by (Publish edit)) ∙ none_more (how_many_by (is_pin v) who h) (eqb by who)

pub unpins-pin : (who v by : ℕ) (h : List Entry) → how_many_by (is_unpin v) who (h ++ entry_by by Pin ∷ []) ≡ how_many_by (is_unpin v) who h
unpins-pin who v by h = how_many_by-push (is_unpin v) who h (entry_by by Pin) ∙ none_more (how_many_by (is_unpin v) who h) (eqb by who)

pub unpins-publish : (who v by : ℕ) (edit : meaning.Edit) (h : List Entry) → how_many_by (is_unpin v) who (h ++ entry_by by (Publish edit) ∷ []) ≡ how_many_by (is_unpin v) who h
unpins-publish who v by edit h = how_many_by-push (is_unpin v) who h (entry_by by (Publish edit)) ∙ none_more (how_many_by (is_unpin v) who h) (eqb by who)

pub unpins-unpin : (who v by u : ℕ) (h : List Entry) → how_many_by (is_unpin v) who (h ++ entry_by by (Unpin u) ∷ []) ≡ how_many_by (is_unpin v) who h + once by u who v
unpins-unpin who v by u h = how_many_by-push (is_unpin v) who h (entry_by by (Unpin u))

-- one more entry
pub IsLegal-push : (h : List Entry) (entry : Entry) → IsLegal h → ((who v : ℕ) → entry ≡ entry_by who (Unpin v) → how_many_by (is_unpin v) who h < how_many_by (is_pin v) who h) → IsLegal (h ++ entry ∷ [])
unfolding IsLegal
IsLegal-push h entry legal last k who v here =
    let all = h ++ entry ∷ [] in
    let inside : k < length all = slice_get_within all k (entry_by who (Unpin v)) here in
    elim (cases_lt k (length h)) as (λ _. how_many_by (is_unpin v) who (take k all) < how_many_by (is_pin v) who (take k all)) [
      | inl old ↦
          let early : k ≤ length h = omega arith in
          let same : slice_get h k ≡ slice_get all k = slice_get-get_or h k entry old ∙ ap Some (sym (get_or_append_left h (entry ∷ []) entry k old)) ∙ sym (slice_get-get_or all k entry inside) in
          rw (take-append-le k h (entry ∷ []) early) (legal k who v (same ∙ here))
      | inr new ↦
          let place : length h ≡ k = omega (arith, length_push h entry) in
          let found : Some entry ≡ Some (entry_by who (Unpin v)) = ap Some (sym (get_or_push h entry entry k place)) ∙ sym (slice_get-get_or all k entry inside) ∙ here in
          let is : entry ≡ entry_by who (Unpin v) = cc in
          rw (take_at h (entry ∷ []) k place) (last who v is)
    ]

pub IsLegal-publish : (by : ℕ) (edit : meaning.Edit) (h : List Entry) → IsLegal h → IsLegal (h ++ entry_by by (Publish edit) ∷ [])
IsLegal-publish by edit h legal =
    IsLegal-push h (entry_by by (Publish edit)) legal (λ who v is. let other : Publish edit ≡ Unpin v = ap (λ (entry : Entry). entry.what) is in absurd (cc))

pub IsGivenBack-publish : (by : ℕ) (edit : meaning.Edit) (h : List Entry) → IsGivenBack h → IsGivenBack (h ++ entry_by by (Publish edit) ∷ [])
unfolding IsGivenBack
IsGivenBack-publish by edit h back who v = unpins-publish who v by edit h ∙ back who v ∙ sym (pins-publish who v by edit h)

-- the newest version pinned and given back at once
pub IsGivenBack-shown : (by n : ℕ) (h : List Entry) → n ≡ length (journal h) → IsGivenBack h → IsGivenBack ((h ++ entry_by by Pin ∷ []) ++ entry_by by (Unpin n) ∷ [])
unfolding IsGivenBack
IsGivenBack-shown by n h is back who v =
    let pin = h ++ entry_by by Pin ∷ [] in
    unpins-unpin who v by n pin
    ∙ ap (λ (m : ℕ). m + once by n who v) (unpins-pin who v by h ∙ back who v)
    ∙ ap (λ (m : ℕ). how_many_by (is_pin v) who h + once by m who v) is
    ∙ sym (pins-pin who v by h)
    ∙ sym (pins-unpin who v by n pin)

pub IsLegal-pin : (by : ℕ) (h : List Entry) → IsLegal h → IsLegal (h ++ entry_by by Pin ∷ [])
IsLegal-pin by h legal = IsLegal-push h (entry_by by Pin) legal (λ who v is. let other : Pin ≡ Unpin v = ap (λ (entry : Entry). entry.what) is in absurd (cc))

pub IsLegal-unpin : (by n : ℕ) (h : List Entry) → IsLegal h → HasPinned h by n → IsLegal (h ++ entry_by by (Unpin n) ∷ [])
IsLegal-unpin by n h legal pinned =
    IsLegal-push h (entry_by by (Unpin n)) legal
    (λ who v is.
    let caller : by ≡ who = ap (λ (entry : Entry). entry.who) is in
    let what : Unpin n ≡ Unpin v = ap (λ (entry : Entry). entry.what) is in
    let version : n ≡ v = cc in
    subst (λ u. HasPinned h who u) version (subst (λ w. HasPinned h w n) caller pinned))

pub IsLegal-shown : (by n : ℕ) (h : List Entry) → n ≡ length (journal h) → IsGivenBack h → IsLegal h → IsLegal ((h ++ entry_by by Pin ∷ []) ++ entry_by by (Unpin n) ∷ [])
unfolding IsGivenBack
IsLegal-shown by n h is back legal =
    let one : once by (length (journal h)) by n ≡ 1 = rw (eq-eqb by by refl, eq-eqb (length (journal h)) n (sym is)) refl in
    IsLegal-unpin by n (h ++ entry_by by Pin ∷ []) (IsLegal-pin by h legal) (omega (arith, one, pins-pin by n by h, unpins-pin by n by h, back by n))

pub IsLegal-none : IsLegal []
unfolding IsLegal
IsLegal-none k who v here = absurd (cc)

pub IsGivenBack-none : IsGivenBack []
unfolding IsGivenBack numbered
IsGivenBack-none who v = refl
