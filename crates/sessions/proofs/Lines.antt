-- How a text is cut into lines, one more part of it at a time.
use Rattle.std.proofs.Common.{◌≡◌, ℕ, ◌+◌, ◌-◌, ◌<◌, true, false, List, [], ◌∷◌, ◌++◌, length, get_or, take, refl, sym, ap, ◌∙◌, append_assoc, inl, inr, arith, length-append, ltb, drop, Some, None, add-one}
use Rattle.std.specs.List.{All, slice_split, onto_first, flat_map, position, position_or_len}
use Rattle.std.proofs.lemmas.Bool.{cases_Bool, eqb-true, ltb-false}
use Rattle.std.proofs.lemmas.Grind.{flat_map-append}
use Rattle.std.proofs.lemmas.List.{take-append-drop, length-take, get_or-take}
use Rattle.std.proofs.lemmas.List.Elements.{All-from_get_or}
use Rattle.std.proofs.lemmas.List.Quantifiers.{position-Some}
use Rattle.std.proofs.lemmas.List.Sums.{fails_before_first}
use Rattle.std.proofs.lemmas.List.Splits.{slice_split_none}
use Rattle.std.proofs.Math.Seq.{drop-cons, take-append_seam, get_or-append_seam}
use Rattle.sessions.specs.Session.{is_lf, lines, rest, items_of, commands}

-- a text has no LF
abbrev pub IsUnbroken : List ℕ → Type 0
IsUnbroken part = All (λ c. is_lf c ≡ false) part

-- the pieces of a text are its lines and what follows them
pub record IsCut (t : List ℕ) (ended : List (List ℕ)) (last : List ℕ) : Type 0 where
  pub cut : slice_split is_lf t ≡ ended ++ last ∷ []
  pub more : (part : List ℕ) → IsUnbroken part → slice_split is_lf (t ++ part) ≡ ended ++ (last ++ part) ∷ []
  pub ends : (s : List ℕ) → slice_split is_lf (t ++ 10 ∷ s) ≡ ended ++ last ∷ slice_split is_lf s

cut_nil : IsCut [] [] []
cut_nil = record { cut = refl; more = λ part h. slice_split_none is_lf part h; ends = λ s. refl }

cut_lf : (c : ℕ) (t : List ℕ) (ended : List (List ℕ)) (last : List ℕ) → is_lf c ≡ true → IsCut t ended last → IsCut (c ∷ t) ([] ∷ ended) last
cut_lf c t ended last h is = record {
  cut = rw h (ap (λ u. [] ∷ u) is.cut);
  more = λ part unbroken. rw h (ap (λ u. [] ∷ u) (is.more part unbroken));
  ends = λ s. rw h (ap (λ u. [] ∷ u) (is.ends s));
}

cut_first : (c : ℕ) (t last : List ℕ) → is_lf c ≡ false → IsCut t [] last → IsCut (c ∷ t) [] (c ∷ last)
cut_first c t last h is = record {
  cut = rw h (ap (onto_first c) is.cut);
  more = λ part unbroken. rw h (ap (onto_first c) (is.more part unbroken));
  ends = λ s. rw h (ap (onto_first c) (is.ends s));
}

cut_later : (c : ℕ) (t first : List ℕ) (ended : List (List ℕ)) (last : List ℕ) → is_lf c ≡ false → IsCut t (first ∷ ended) last → IsCut (c ∷ t) ((c ∷ first) ∷ ended) last
cut_later c t first ended last h is = record {
  cut = rw h (ap (onto_first c) is.cut);
  more = λ part unbroken. rw h (ap (onto_first c) (is.more part unbroken));
  ends = λ s. rw h (ap (onto_first c) (is.ends s));
}

cut_on : (c : ℕ) (t : List ℕ) (ended : List (List ℕ)) (last : List ℕ) → is_lf c ≡ false → IsCut t ended last → (now : List (List ℕ)) × (rest_now : List ℕ) × IsCut (c ∷ t) now rest_now
cut_on c t [] last h is = ([], c ∷ last, cut_first c t last h is)
cut_on c t (first ∷ ended) last h is = ((c ∷ first) ∷ ended, last, cut_later c t first ended last h is)

-- each text is cut somewhere
cut_of : (t : List ℕ) → (ended : List (List ℕ)) × (last : List ℕ) × IsCut t ended last
cut_of [] = ([], [], cut_nil)
cut_of (c ∷ t) =
    let before = cut_of t in
    elim (cases_Bool (is_lf c)) [
      | inl h ↦ ([] ∷ before.0, before.1, cut_lf c t before.0 before.1 h before.2)
      | inr h ↦ cut_on c t before.0 before.1 h before.2
    ]

-- all but the last of a list, and the last
front_of : {X : Type 0} (xs : List X) (x : X) → take (length (xs ++ x ∷ []) - 1) (xs ++ x ∷ []) ≡ xs
front_of xs x =
    let n : length (xs ++ x ∷ []) - 1 ≡ length xs = omega (arith, length-append xs (x ∷ [])) in
    rw n (take-append_seam xs (x ∷ []))

last_of : {X : Type 0} (xs : List X) (x d : X) → get_or (xs ++ x ∷ []) (length (xs ++ x ∷ []) - 1) d ≡ x
last_of xs x d =
    let n : length (xs ++ x ∷ []) - 1 ≡ length xs = omega (arith, length-append xs (x ∷ [])) in
    rw n (get_or-append_seam xs x [] d)

lines_is : (t : List ℕ) (ended : List (List ℕ)) (last : List ℕ) → slice_split is_lf t ≡ ended ++ last ∷ [] → lines t ≡ ended
unfolding lines
lines_is t ended last h = rw h (front_of ended last)

rest_is : (t : List ℕ) (ended : List (List ℕ)) (last : List ℕ) → slice_split is_lf t ≡ ended ++ last ∷ [] → rest t ≡ last
unfolding rest
rest_is t ended last h = rw h (last_of ended last [])

-- a text's pieces are its lines and its rest
pub cut_at_rest : (t : List ℕ) → IsCut t (lines t) (rest t)
cut_at_rest t =
    let is = cut_of t in
    rw (lines_is t is.0 is.1 is.2.cut, rest_is t is.0 is.1 is.2.cut) is.2

-- a part without LF goes to the rest
pub lines-more : (t part : List ℕ) → IsUnbroken part → lines (t ++ part) ≡ lines t
lines-more t part unbroken = lines_is (t ++ part) (lines t) (rest t ++ part) ((cut_at_rest t).more part unbroken)

pub rest-more : (t part : List ℕ) → IsUnbroken part → rest (t ++ part) ≡ rest t ++ part
rest-more t part unbroken = rest_is (t ++ part) (lines t) (rest t ++ part) ((cut_at_rest t).more part unbroken)

-- an LF ends the rest
ended_cut : (t s : List ℕ) → slice_split is_lf (t ++ 10 ∷ s) ≡ (lines t ++ rest t ∷ lines s) ++ rest s ∷ []
ended_cut t s =
    (cut_at_rest t).ends s ∙ ap (λ u. lines t ++ rest t ∷ u) (cut_at_rest s).cut ∙ sym (append_assoc (lines t) (rest t ∷ lines s) (rest s ∷ []))

pub lines-lf : (t s : List ℕ) → lines (t ++ 10 ∷ s) ≡ lines t ++ rest t ∷ lines s
lines-lf t s = lines_is (t ++ 10 ∷ s) (lines t ++ rest t ∷ lines s) (rest s) (ended_cut t s)

pub rest-lf : (t s : List ℕ) → rest (t ++ 10 ∷ s) ≡ rest s
rest-lf t s = rest_is (t ++ 10 ∷ s) (lines t ++ rest t ∷ lines s) (rest s) (ended_cut t s)

-- the commands of a text, of which one more part or line came
pub commands-more : (f : ℕ) (t part : List ℕ) → IsUnbroken part → commands f (t ++ part) ≡ commands f t
unfolding commands
commands-more f t part unbroken = rw (lines-more t part unbroken) refl

pub commands-lf : (f : ℕ) (t s : List ℕ) → commands f (t ++ 10 ∷ s) ≡ commands f t ++ items_of f (rest t) ++ commands f s
unfolding commands
commands-lf f t s =
    rw (lines-lf t s) (flat_map-append (items_of f) (lines t) (rest t ∷ lines s) ∙ sym (append_assoc (flat_map (items_of f) (lines t)) (items_of f (rest t)) (flat_map (items_of f) (lines s))))

pub commands-nil : (f : ℕ) → commands f [] ≡ []
unfolding commands lines
commands-nil f = refl

pub rest-nil : rest [] ≡ []
unfolding rest
rest-nil = refl

-- a text without LF
pub unbroken : (r : List ℕ) → position is_lf r ≡ None → IsUnbroken r
unbroken r missed = elim (cases_Bool (ltb (position_or_len is_lf r) (length r))) [
  | inl found ↦ absurd (let some : position is_lf r ≡ Some (position_or_len is_lf r) = rw found refl in cc)
  | inr past ↦ All-from_get_or (λ c. is_lf c ≡ false) r 0 (λ i inside. fails_before_first is_lf r i 0 (omega (arith, ltb-false _ _ past)))
]

-- a text with an LF is what stands before the first, and what follows it
pub unbroken_front : (r : List ℕ) (k : ℕ) → position is_lf r ≡ Some k → IsUnbroken (take k r)
unbroken_front r k found =
    let at = position-Some is_lf r k 0 found in
    All-from_get_or (λ c. is_lf c ≡ false) (take k r) 0 (λ i inside.
    let below : i < k = omega (arith, length-take k r) in
    rw (get_or-take k r i 0 below) (at.2 i below))

pub split_at_lf : (r : List ℕ) (k : ℕ) → position is_lf r ≡ Some k → r ≡ take k r ++ 10 ∷ drop (k + 1) r
split_at_lf r k found =
    let at = position-Some is_lf r k 0 found in
    let lf : get_or r k 0 ≡ 10 = eqb-true _ _ at.1 in
    sym (take-append-drop k r) ∙ ap (λ u. take k r ++ u) (drop-cons r k 0 at.0 ∙ rw (lf, add-one) refl)
