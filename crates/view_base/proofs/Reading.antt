-- One word more of those that are read against a form.
use Rattle.std.proofs.Common.{◌≡◌, ℕ, suc, ◌+◌, ◌<◌, Bool, true, false, Some, None, List, [], ◌∷◌, length, get_or, drop, map, inl, inr, sym, ap, ◌∙◌, subst, arith, length-drop}
use Rattle.std.proofs.lemmas.Bool.{cases_eq}
use Rattle.std.proofs.lemmas.List.{drop_more, length-map, get_or-map}
use Rattle.std.specs.Prelude.{String, string_bytes}
use Rattle.view_base.specs.Fitting.{word_at, misfit}
use Rattle.view_base.specs.Cursor.{IsRead}
use Rattle.view_base.proofs.Fitting.{misfit-at, misfit-short, misfit-none}

-- a word that is left stands within the words
left_inside : (fits : ℕ → List ℕ → Bool) (all left others : List (List ℕ)) (word : List ℕ) (k : ℕ) → IsRead fits all left k → left ≡ word ∷ others → k < length all
left_inside fits all left others word k r next =
    let longer : length (drop k all) ≡ suc (length others) = ap length (sym r.left_are ∙ next) in
    omega (arith, longer, length-drop k all)

-- the next word is that of its place
pub next-is : (fits : ℕ → List ℕ → Bool) (all left others : List (List ℕ)) (word : List ℕ) (k : ℕ) → IsRead fits all left k → left ≡ word ∷ others → word_at all k ≡ word
next-is fits all left others word k r next =
    let cut : word ∷ others ≡ word_at all k ∷ drop (k + 1) all = sym next ∙ r.left_are ∙ drop_more all k [] (left_inside fits all left others word k r next) in
    cc

-- where no word is left there is none at the place
pub next-none : (fits : ℕ → List ℕ → Bool) (all left : List (List ℕ)) (k : ℕ) → IsRead fits all left k → left ≡ [] → length all ≡ k
next-none fits all left k r none =
    let shorter : length (drop k all) ≡ 0 = ap length (sym r.left_are ∙ none) in
    omega (arith, shorter, length-drop k all, r.within)

-- a word that doesn't fit
pub misfit-next : (fits : ℕ → List ℕ → Bool) (whole : ℕ → Bool) (all left others : List (List ℕ)) (word : List ℕ) (k : ℕ) → IsRead fits all left k → left ≡ word ∷ others → fits k word ≡ false → misfit fits whole all ≡ Some k
misfit-next fits whole all left others word k r next other =
    misfit-at fits whole all k (left_inside fits all left others word k r next) r.fit (rw (next-is fits all left others word k r next) other)

-- no word where one is needed
pub misfit-missing : (fits : ℕ → List ℕ → Bool) (whole : ℕ → Bool) (all left : List (List ℕ)) (k : ℕ) → IsRead fits all left k → left ≡ [] → whole k ≡ false → misfit fits whole all ≡ Some k
misfit-missing fits whole all left k r none part =
    let count = next-none fits all left k r none in
    misfit-short fits whole all (λ j below. r.fit j (omega (arith, count, below))) (rw count part) ∙ ap (λ (n : ℕ). Some n) count

-- all words that are needed
pub misfit-done : (fits : ℕ → List ℕ → Bool) (whole : ℕ → Bool) (all left : List (List ℕ)) (k : ℕ) → IsRead fits all left k → left ≡ [] → whole k ≡ true → misfit fits whole all ≡ None
misfit-done fits whole all left k r none done =
    let count = next-none fits all left k r none in
    misfit-none fits whole all (λ j below. r.fit j (omega (arith, count, below))) (rw count done)

-- a word that fits
pub read_more : (fits : ℕ → List ℕ → Bool) (all left others : List (List ℕ)) (word : List ℕ) (k : ℕ) → IsRead fits all left k → left ≡ word ∷ others → fits k word ≡ true → IsRead fits all others (k + 1)
read_more fits all left others word k r next here =
    let inside = left_inside fits all left others word k r next in
    record {
      fit = λ j below. elim (cases_eq j k) [
        | inl last ↦ subst (λ (n : ℕ). fits n (word_at all n) ≡ true) (sym last) (rw (next-is fits all left others word k r next) here)
        | inr before ↦ r.fit j (omega (arith, below))
      ];
      left_are = let cut : word ∷ others ≡ word_at all k ∷ drop (k + 1) all = sym next ∙ r.left_are ∙ drop_more all k [] inside in cc;
      within = omega (arith, inside);
    }

-- the words of a list from a place on
pub listed-next : {Y : Type 0} (list : List (String Y)) (k : ℕ) (text : String Y) → k < length list → text ≡ get_or list k text → drop k (map string_bytes list) ≡ string_bytes text ∷ drop (k + 1) (map string_bytes list)
listed-next list k text inside is =
    drop_more (map string_bytes list) k [] (omega (arith, length-map list string_bytes, inside)) ∙ ap (λ (word : List ℕ). word ∷ drop (k + 1) (map string_bytes list)) (get_or-map string_bytes list k text [] inside ∙ ap string_bytes (sym is))
