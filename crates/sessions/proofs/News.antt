-- The entries of a caller that are new in a longer history.
use Rattle.std.proofs.Common.{◌≡◌, ℕ, suc, ◌+◌, ◌≤◌, eqb, List, [], ◌∷◌, ◌++◌, length, drop, refl, sym, ap, ◌∙◌, arith, length-append}
use Rattle.std.specs.List.{All}
use Rattle.std.proofs.lemmas.List.{length-drop, nil_from_length, append_assoc, append_cancel_left}
use Rattle.std.proofs.lemmas.List.Elements.{All-nil, All-cons, All-drop, All-filter}
use Rattle.std.proofs.Math.Seq.{drop-append_seam}
use mathlib.Core.List.{IsPrefix}
use Rattle.turn_gate.proofs.Beginnings.{prefix_trans}
use Rattle.version_store.specs.declared.history.Entry.{Entry}
use Rattle.version_store.specs.Histories.{edit_in, journal, numbered, entries_by}
use Rattle.version_store.proofs.HistoryLaws.{journal-append, numbered-append, entries_by-append}

-- the entries of a caller after those of a history that it grew from
abbrev pub news : ℕ → List Entry → List Entry → List (Entry × ℕ)
news who h0 h = entries_by who (drop (length h0) (numbered 0 h))

length-numbered : (v : ℕ) (h : List Entry) → length (numbered v h) ≡ length h
unfolding numbered
length-numbered v [] = refl
length-numbered v (entry ∷ h) = ap (λ (n : ℕ). suc n) (length-numbered (v + length (edit_in entry.what)) h)

-- after a history stands nothing of it
pub drop-numbered : (h : List Entry) → drop (length h) (numbered 0 h) ≡ []
drop-numbered h = nil_from_length (drop (length h) (numbered 0 h)) (omega (arith, length-drop (length h) (numbered 0 h), length-numbered 0 h))

-- what follows a history
drop-numbered_append : (h more : List Entry) → drop (length h) (numbered 0 (h ++ more)) ≡ numbered (length (journal h)) more
drop-numbered_append h more =
    let n = length (journal h) in
    let same : 0 + n ≡ n = omega arith in
    ap (drop (length h)) (numbered-append 0 h more ∙ ap (λ (k : ℕ). numbered 0 h ++ numbered k more) same)
    ∙ ap (λ (k : ℕ). drop k (numbered 0 h ++ numbered n more)) (sym (length-numbered 0 h))
    ∙ drop-append_seam (numbered 0 h) (numbered n more)

-- the entries of a caller are those of before and the new ones
pub entries_by-news : (who : ℕ) (h0 h : List Entry) → IsPrefix h0 h → entries_by who (numbered 0 h) ≡ entries_by who (numbered 0 h0) ++ news who h0 h
entries_by-news who h0 h begins =
    let more = begins.0 in
    ap (λ (l : List Entry). entries_by who (numbered 0 l)) (sym begins.1)
    ∙ entries_by-append who h0 more
    ∙ ap (λ (l : List (Entry × ℕ)). entries_by who (numbered 0 h0) ++ entries_by who l) (sym (drop-numbered_append h0 more) ∙ ap (λ (l : List Entry). drop (length h0) (numbered 0 l)) begins.1)

-- more entries of a caller are more new ones
pub news-more : (who : ℕ) (h0 h later : List Entry) (entries : List (Entry × ℕ)) → IsPrefix h0 h → IsPrefix h later
    → entries_by who (numbered 0 later) ≡ entries_by who (numbered 0 h) ++ entries → news who h0 later ≡ news who h0 h ++ entries
news-more who h0 h later entries first then more =
    let old = entries_by who (numbered 0 h0) in
    append_cancel_left old (news who h0 later) (news who h0 h ++ entries)
    (sym (entries_by-news who h0 later (prefix_trans h0 h later first then))
    ∙ more
    ∙ ap (λ (l : List (Entry × ℕ)). l ++ entries) (entries_by-news who h0 h first)
    ∙ append_assoc old (news who h0 h) entries)

-- the same entries of a caller are the same new ones
pub news-same : (who : ℕ) (h0 h later : List Entry) → IsPrefix h0 h → IsPrefix h later
    → entries_by who (numbered 0 later) ≡ entries_by who (numbered 0 h) → news who h0 later ≡ news who h0 h
news-same who h0 h later first then same =
    append_cancel_left (entries_by who (numbered 0 h0)) (news who h0 later) (news who h0 h)
    (sym (entries_by-news who h0 later (prefix_trans h0 h later first then)) ∙ same ∙ entries_by-news who h0 h first)

-- no entry stands at more than this number of edits
abbrev pub AreUpTo : ℕ → List (Entry × ℕ) → Type 0
AreUpTo n entries = All (λ (at : Entry × ℕ). at.1 ≤ n) entries

numbered-up_to : (v n : ℕ) (h : List Entry) → v + length (journal h) ≤ n → AreUpTo n (numbered v h)
unfolding numbered journal
numbered-up_to v n [] within = All-nil (λ (at : Entry × ℕ). at.1 ≤ n)
numbered-up_to v n (entry ∷ h) within =
    let edits = edit_in entry.what in
    let next = v + length edits in
    let whole = length-append edits (journal h) in
    All-cons (λ (at : Entry × ℕ). at.1 ≤ n) (entry, next) (numbered next h) (omega (arith, whole)) (numbered-up_to next n h (omega (arith, whole)))

-- no new entry stands at more edits than are published
pub news-up_to : (who : ℕ) (h0 h : List Entry) → AreUpTo (length (journal h)) (news who h0 h)
news-up_to who h0 h =
    let within = λ (at : Entry × ℕ). at.1 ≤ length (journal h) in
    All-filter (λ (at : Entry × ℕ). eqb at.0.who who) within (drop (length h0) (numbered 0 h))
    (All-drop within (length h0) (numbered 0 h) (numbered-up_to 0 (length (journal h)) h (omega arith)))

-- no fewer edits are published in a longer history
pub length-journal_later : (h later : List Entry) → IsPrefix h later → length (journal h) ≤ length (journal later)
length-journal_later h later begins =
    let more = begins.0 in
    let whole : journal later ≡ journal h ++ journal more = ap journal (sym begins.1) ∙ journal-append h more in
    omega (arith, ap length whole, length-append (journal h) (journal more))
