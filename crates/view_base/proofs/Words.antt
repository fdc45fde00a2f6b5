-- The words of a line, one byte and one word at a time.
use Rattle.std.proofs.Common.{◌≡◌, ℕ, suc, ◌+◌, ◌-◌, ◌<◌, ◌≤◌, Bool, true, false, ltb, not, Option, Some, None, List, [], ◌∷◌, length, get_or, take, drop, slice_range, refl, sym, ◌∙◌, inl, inr, arith, length-drop, get_or-drop, drop-drop}
use Rattle.std.specs.List.{AllPass, position, position_or_len, slice_split}
use Rattle.std.proofs.lemmas.Bool.{cases_Bool, not-false, not-true, true≢false, lt-ltb, ltb-false, cases_eq}
use Rattle.std.proofs.lemmas.List.{drop_all, length-take, take_rest}
use Rattle.std.proofs.lemmas.List.Sums.{fails_before_first, passes_at_first, position_or_len_is, prefix_len-le-length}
use Rattle.std.proofs.lemmas.List.Quantifiers.{position-Some}
use Rattle.view_base.specs.Text.{is_blank, words, IsNextWord}

pub words-nil : words [] ≡ []
unfolding words
words-nil = refl

pub words-blank : (c : ℕ) (cs : List ℕ) → is_blank c ≡ true → words (c ∷ cs) ≡ words cs
unfolding words
words-blank c cs h = rw h refl

one_and : (n : ℕ) → 1 + n ≡ suc n
one_and n = omega arith

-- a text is its first piece and, after the separator, its other pieces
pub slice_split-first : (separates : ℕ → Bool) (cs : List ℕ) → (others : List (List ℕ)) × (slice_split separates cs ≡ take (position_or_len separates cs) cs ∷ others) × (slice_split separates (drop (position_or_len separates cs) cs) ≡ [] ∷ others)
slice_split-first separates [] = ([], refl, refl)
slice_split-first separates (c ∷ cs) =
    let more = slice_split-first separates cs in
    elim (cases_Bool (separates c)) [
      | inl here ↦ (slice_split separates cs, rw here refl, rw (here, here) refl)
      | inr on ↦ (more.0, rw (on, one_and, more.1) refl, rw (on, one_and) more.2)
    ]

-- blanks before the first word change nothing
pub words-drop_blanks : (cs : List ℕ) → words (drop (position_or_len (λ c. not (is_blank c)) cs) cs) ≡ words cs
words-drop_blanks [] = refl
words-drop_blanks (c ∷ cs) =
    elim (cases_Bool (is_blank c)) [
      | inl here ↦ rw (here, one_and) (words-drop_blanks cs ∙ sym (words-blank c cs here))
      | inr on ↦ rw on refl
    ]

-- a line that begins with a word has that word, and then those that follow it
pub words-first : (cs : List ℕ) → 0 < position_or_len is_blank cs → words cs ≡ take (position_or_len is_blank cs) cs ∷ words (drop (position_or_len is_blank cs) cs)
unfolding words
words-first cs some =
    let all = slice_split-first is_blank cs in
    let long : ltb 0 (length (take (position_or_len is_blank cs) cs)) ≡ true = lt-ltb 0 _ (omega (arith, length-take (position_or_len is_blank cs) cs, prefix_len-le-length (λ c. not (is_blank c)) cs)) in
    rw (all.1, all.2) (rw long refl)

-- what `position` in the rest of a line from a place on answers
pub place_found : (p : ℕ → Bool) (line : List ℕ) (from n : ℕ) (r : Option ℕ) → r ≡ position p (slice_range line from (length line)) → r ≡ Some n → (position_or_len p (drop from line) ≡ n) × (from + n < length line)
place_found p line from n r answer found =
    let rest = drop from line in
    let known : position p rest ≡ Some n = rw take_rest at (sym answer ∙ found) in
    let at = position-Some p rest n 0 known in
    (position_or_len_is p rest n 0 (omega (arith, at.0)) at.2 (λ _. at.1), omega (arith, at.0, length-drop from line))

pub place_missed : (p : ℕ → Bool) (line : List ℕ) (from : ℕ) (r : Option ℕ) → r ≡ position p (slice_range line from (length line)) → r ≡ None → position_or_len p (drop from line) ≡ length line - from
place_missed p line from r answer missed =
    let rest = drop from line in
    let known : position p rest ≡ None = rw take_rest at (sym answer ∙ missed) in
    let n = position_or_len p rest in
    elim (cases_Bool (ltb n (length rest))) [
      | inl found ↦ absurd (let some : position p rest ≡ Some n = rw found refl in cc)
      | inr past ↦ omega (arith, ltb-false n (length rest) past, prefix_len-le-length (λ c. not (p c)) rest, length-drop from line)
    ]

-- before the first place that passes, and at it, within a line
fails_before : (p : ℕ → Bool) (line : List ℕ) (from k : ℕ) → from ≤ k → k < from + position_or_len p (drop from line) → p (get_or line k 0) ≡ false
fails_before p line from k low below =
    let fails = fails_before_first p (drop from line) (k - from) 0 (omega arith) in
    let same : from + (k - from) ≡ k = omega arith in
    rw (get_or-drop, same) at fails

passes_at : (p : ℕ → Bool) (line : List ℕ) (from : ℕ) → from + position_or_len p (drop from line) < length line → p (get_or line (from + position_or_len p (drop from line)) 0) ≡ true
passes_at p line from inside =
    rw get_or-drop at (passes_at_first p (drop from line) 0 (omega (arith, length-drop from line)))

pub next_place : (line : List ℕ) (from start finish : ℕ) → from ≤ length line → start ≡ from + position_or_len (λ c. not (is_blank c)) (drop from line) → start < length line → finish ≡ start + position_or_len is_blank (drop start line) → IsNextWord line from start finish
next_place line from start finish low begins inside ends =
    let letter : is_blank (get_or line start 0) ≡ false = rw begins (not-true _ (passes_at (λ c. not (is_blank c)) line from (omega arith))) in
    let some : start < finish = elim (cases_eq finish start) [
      | inl same ↦ absurd (true≢false (sym (passes_at is_blank line start (omega arith)) ∙ rw (← ends, same) letter))
      | inr apart ↦ omega arith
    ] in
    record {
      after = omega arith;
      some = some;
      within = omega (arith, prefix_len-le-length (λ c. not (is_blank c)) (drop start line), length-drop start line);
      blanks = λ k l h. not-false _ (fails_before (λ c. not (is_blank c)) line from k l (omega arith));
      unbroken = λ k l h. fails_before is_blank line start k l (omega arith);
      longest = λ h. rw ends (passes_at is_blank line start (omega arith));
    }

pub next_words : (line : List ℕ) (from start finish : ℕ) → start ≡ from + position_or_len (λ c. not (is_blank c)) (drop from line) → start < finish → finish ≡ start + position_or_len is_blank (drop start line) → words (drop from line) ≡ slice_range line start finish ∷ words (drop finish line)
next_words line from start finish begins some ends =
    let skipped : words (drop start line) ≡ words (drop from line) = rw (begins, ← drop-drop) (words-drop_blanks (drop from line)) in
    let first = rw drop-drop at (words-first (drop start line) (omega arith)) in
    let run : position_or_len is_blank (drop start line) ≡ finish - start = omega arith in
    sym skipped ∙ rw (← ends, run) at first

-- where no byte from a place on is other than a blank, there is no word
pub no_words : (line : List ℕ) (from : ℕ) → position_or_len (λ c. not (is_blank c)) (drop from line) ≡ length line - from → words (drop from line) ≡ []
no_words line from all =
    sym (words-drop_blanks (drop from line)) ∙ rw (all, drop_all (length line - from) (drop from line) (omega (arith, length-drop from line))) words-nil

pub all_blank : (line : List ℕ) (from : ℕ) → position_or_len (λ c. not (is_blank c)) (drop from line) ≡ length line - from → AllPass is_blank (drop from line)
all_blank line from all k d h = not-false _ (fails_before_first (λ c. not (is_blank c)) (drop from line) k d (omega (arith, length-drop from line)))
