-- The nearest of a list of records that grows by one, and the word that a pixel keeps of it.
use Rattle.std.proofs.Common.{◌≡◌, ℕ, zero, suc, ◌+◌, ◌*◌, ◌-◌, ◌^◌, ◌<◌, ◌≤◌, min, List, [], ◌∷◌, ◌++◌, Option, Some, None, Bool, true, false, cond, if◌then◌else◌, nat_lt, refl, sym, ◌∙◌, ap, arith, append-nil}
use Rattle.std.proofs.lemmas.Bool.Decides.{nat_tests}
use Rattle.std.proofs.lemmas.List.Elements.{filter-append}
use Rattle.std.specs.List.{filter, range_with_len}
use Rattle.view_meaning.specs.Picture.{nearer, nearest_of}
use Rattle.view_meaning.specs.Frame.{word_of}

-- the best so far, or a later one that is strictly nearer
abbrev pub or_later : (ℕ → ℕ) → Option ℕ → ℕ → Option ℕ
or_later depth None n = Some n
or_later depth (Some j) n = if nat_lt (depth n) (depth j) then Some n else Some j

keeps_order : (depth : ℕ → ℕ) (i n : ℕ) (o : Option ℕ) → Some (nearer depth i (or_later depth o n)) ≡ or_later depth (Some (nearer depth i o)) n
keeps_order depth i n None = grind (arith, nat_tests)
keeps_order depth i n (Some j) = grind (arith, nat_tests)

pub nearest_of-append : (depth : ℕ → ℕ) (is : List ℕ) (n : ℕ) → nearest_of depth (is ++ n ∷ []) ≡ or_later depth (nearest_of depth is) n
nearest_of-append depth [] n = refl
nearest_of-append depth (i ∷ is) n = ap (λ (o : Option ℕ). Some (nearer depth i o)) (nearest_of-append depth is n) ∙ keeps_order depth i n (nearest_of depth is)

pub range_more : (a n m : ℕ) → a + n ≡ m → range_with_len a (suc n) ≡ range_with_len a n ++ m ∷ []
range_more a zero m is = let e : a ≡ m = omega arith in ap (λ (k : ℕ). k ∷ []) e
range_more a (suc n) m is = ap (λ (l : List ℕ). a ∷ l) (range_more (a + 1) n m (omega arith))

-- the best of the records below n that pass a test
abbrev pub best : (ℕ → Bool) → (ℕ → ℕ) → ℕ → Option ℕ
best test depth n = nearest_of depth (filter test (range_with_len 0 n))

-- one more record either passes and counts, or does not
pub best-more : (test : ℕ → Bool) (depth : ℕ → ℕ) (n : ℕ) → best test depth (suc n) ≡ (if test n then or_later depth (best test depth n) n else best test depth n)
best-more test depth n =
    ap (λ l. nearest_of depth (filter test l)) (range_more 0 n n (omega arith))
    ∙ ap (nearest_of depth) (filter-append test (range_with_len 0 n) (n ∷ []))
    ∙ last (test n)
  where
    last : (b : Bool) → nearest_of depth (filter test (range_with_len 0 n) ++ cond b (n ∷ []) []) ≡ (if b then or_later depth (nearest_of depth (filter test (range_with_len 0 n))) n else nearest_of depth (filter test (range_with_len 0 n)))
    last true = nearest_of-append depth (filter test (range_with_len 0 n)) n
    last false = ap (nearest_of depth) (append-nil (filter test (range_with_len 0 n)))

one_of : (depth : ℕ → ℕ) (n j : ℕ) (o : Option ℕ) (passes : Bool) → ((k : ℕ) → o ≡ Some k → k < n) → (if passes then or_later depth o n else o) ≡ Some j → j < suc n
one_of depth n j o false below is = let lt : j < n = below j is in omega arith
one_of depth n j None true below is = let e : n ≡ j = cc is in omega arith
one_of depth n j (Some i) true below is = two (nat_lt (depth n) (depth i)) (below i refl) is
  where
    two : (b : Bool) → i < n → (if b then Some n else Some i) ≡ Some j → j < suc n
    two true lt is = let e : n ≡ j = cc is in omega arith
    two false lt is = let e : i ≡ j = cc is in omega arith

-- the best of the records below n is one of them
pub best_below : (test : ℕ → Bool) (depth : ℕ → ℕ) (n j : ℕ) → best test depth n ≡ Some j → j < n
best_below test depth zero j is = absurd (cc is)
best_below test depth (suc n) j is = one_of depth n j (best test depth n) (test n) (best_below test depth n) (sym (best-more test depth n) ∙ is)

-- a record that passes lowers the word to its own where that is less
pub word_of-more : (depth : ℕ → ℕ) (o : Option ℕ) (n : ℕ) → ((j : ℕ) → o ≡ Some j → j < n) → n < 2 ^ 32 → depth n < 2 ^ 32 - 1
    → word_of depth (or_later depth o n) ≡ min (word_of depth o) (depth n * 2 ^ 32 + n)
word_of-more depth None n below short shallow = omega arith
word_of-more depth (Some j) n below short shallow = let lt : j < n = below j refl in pick (nat_lt (depth n) (depth j)) refl lt
  where
    pick : (b : Bool) → nat_lt (depth n) (depth j) ≡ b → j < n → word_of depth (if b then Some n else Some j) ≡ min (depth j * 2 ^ 32 + j) (depth n * 2 ^ 32 + n)
    pick true is lt = let less : depth n < depth j = grind (arith, nat_tests) in omega arith
    pick false is lt = let least : depth j ≤ depth n = grind (arith, nat_tests) in omega arith
