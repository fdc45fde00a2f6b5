-- Tables of versions: those of a range that are kept, each with a number.
use Rattle.std.proofs.Common.{◌≡◌, ◌≢◌, ℕ, zero, suc, ◌+◌, ◌<◌, ◌≤◌, Bool, true, false, cond, List, [], ◌∷◌, ◌++◌, length, map, get_or, set, refl, sym, ap, inl, inr, ◌∙◌, arith}
use Rattle.std.specs.List.{filter, range_with_len, remove}
use Rattle.std.proofs.lemmas.Bool.{cases_eq, cases_Bool}
use Rattle.std.proofs.lemmas.List.{map-append}
use Rattle.std.proofs.lemmas.List.Elements.{filter-append}
use Rattle.view_meaning.proofs.Nearest.{range_more}

-- each version of a list that is kept, with its number
abbrev pub rows : (ℕ → ℕ) → (ℕ → Bool) → List ℕ → List (ℕ × ℕ)
rows f p versions = map (λ v. (v, f v)) (filter p versions)

-- those of k versions from a on
abbrev pub table : (ℕ → ℕ) → (ℕ → Bool) → ℕ → ℕ → List (ℕ × ℕ)
table f p a k = rows f p (range_with_len a k)

rows-cons : (f : ℕ → ℕ) (p : ℕ → Bool) (v : ℕ) (vs : List ℕ) → rows f p (v ∷ vs) ≡ cond (p v) ((v, f v) ∷ rows f p vs) (rows f p vs)
rows-cons f p v vs = by_case (p v)
  where
    by_case : (b : Bool) → map (λ (u : ℕ). (u, f u)) (cond b (v ∷ filter p vs) (filter p vs)) ≡ cond b ((v, f v) ∷ rows f p vs) (rows f p vs)
    by_case true = refl
    by_case false = refl

rows-kept : (f : ℕ → ℕ) (p : ℕ → Bool) (v : ℕ) (vs : List ℕ) → p v ≡ true → rows f p (v ∷ vs) ≡ (v, f v) ∷ rows f p vs
rows-kept f p v vs kept = rows-cons f p v vs ∙ ap (λ b. cond b ((v, f v) ∷ rows f p vs) (rows f p vs)) kept

rows-left : (f : ℕ → ℕ) (p : ℕ → Bool) (v : ℕ) (vs : List ℕ) → p v ≡ false → rows f p (v ∷ vs) ≡ rows f p vs
rows-left f p v vs left = rows-cons f p v vs ∙ ap (λ b. cond b ((v, f v) ∷ rows f p vs) (rows f p vs)) left

-- the same numbers and the same versions kept
pub table-same : (f g : ℕ → ℕ) (p q : ℕ → Bool) (a k : ℕ) → ((v : ℕ) → a ≤ v → v < a + k → (f v ≡ g v) × (p v ≡ q v)) → table f p a k ≡ table g q a k
table-same f g p q a zero same = refl
table-same f g p q a (suc k) same =
    let first : (f a ≡ g a) × (p a ≡ q a) = same a (omega arith) (omega arith) in
    let others : table f p (a + 1) k ≡ table g q (a + 1) k = table-same f g p q (a + 1) k (λ v from below. same v (omega arith) (omega arith)) in
    rows-cons f p a (range_with_len (a + 1) k)
    ∙ ap (λ b. cond b ((a, f a) ∷ table f p (a + 1) k) (table f p (a + 1) k)) first.1
    ∙ ap (λ n. cond (q a) ((a, n) ∷ table f p (a + 1) k) (table f p (a + 1) k)) first.0
    ∙ ap (λ l. cond (q a) ((a, g a) ∷ l) l) others
    ∙ sym (rows-cons g q a (range_with_len (a + 1) k))

-- one more version
pub table-more : (f : ℕ → ℕ) (p : ℕ → Bool) (n : ℕ) → p n ≡ true → table f p 0 (n + 1) ≡ table f p 0 n ++ (n, f n) ∷ []
table-more f p n kept =
    let next : n + 1 ≡ suc n = omega arith in
    ap (λ m. table f p 0 m) next
    ∙ ap (rows f p) (range_more 0 n n (omega arith))
    ∙ ap (map (λ (u : ℕ). (u, f u))) (filter-append p (range_with_len 0 n) (n ∷ []))
    ∙ map-append (λ (u : ℕ). (u, f u)) (filter p (range_with_len 0 n)) (filter p (n ∷ []))
    ∙ ap (λ l. table f p 0 n ++ l) (rows-kept f p n [] kept)

-- what a row of a table is
pub record IsRow (f : ℕ → ℕ) (p : ℕ → Bool) (a k v x : ℕ) : Type 0 where
  pub from : a ≤ v
  pub below : v < a + k
  pub number : x ≡ f v
  pub kept : p v ≡ true

pub table-at : (f : ℕ → ℕ) (p : ℕ → Bool) (a k i v x : ℕ) (d : ℕ × ℕ) → i < length (table f p a k) → get_or (table f p a k) i d ≡ (v, x) → IsRow f p a k v x
table-at f p a zero i v x d within is = absurd (omega arith)
table-at f p a (suc k) i v x d within is = elim (cases_Bool (p a)) as (λ _. IsRow f p a (suc k) v x) [
  | inl kept ↦
      let all = rows-kept f p a (range_with_len (a + 1) k) kept in
      of_kept kept (λ j inside here. table-at f p (a + 1) k j v x d inside here) i (rw all at within) (rw all at is)
  | inr left ↦
      let all = rows-left f p a (range_with_len (a + 1) k) left in
      wider (table-at f p (a + 1) k i v x d (rw all at within) (rw all at is))
]
  where
    wider : IsRow f p (a + 1) k v x → IsRow f p a (suc k) v x
    wider row = record { from = omega arith; below = omega arith; number = row.number; kept = row.kept }

    of_kept : p a ≡ true → ((j : ℕ) → j < length (table f p (a + 1) k) → get_or (table f p (a + 1) k) j d ≡ (v, x) → IsRow f p (a + 1) k v x)
        → (j : ℕ) → j < length ((a, f a) ∷ table f p (a + 1) k) → get_or ((a, f a) ∷ table f p (a + 1) k) j d ≡ (v, x) → IsRow f p a (suc k) v x
    of_kept kept later zero within is =
        let version : a ≡ v = ap (λ (at : ℕ × ℕ). at.0) is in
        let number : f a ≡ x = ap (λ (at : ℕ × ℕ). at.1) is in
        record { from = omega arith; below = omega arith; number = sym number ∙ ap f version; kept = ap p (sym version) ∙ kept }
    of_kept kept later (suc j) within is = wider (later j (omega arith) is)

-- the row of a version that is kept
pub table-has : (f : ℕ → ℕ) (p : ℕ → Bool) (a k v : ℕ) (d : ℕ × ℕ) → a ≤ v → v < a + k → p v ≡ true → (i : ℕ) × (i < length (table f p a k)) × (get_or (table f p a k) i d ≡ (v, f v))
table-has f p a zero v d from below kept = absurd (omega arith)
table-has f p a (suc k) v d from below kept = elim (cases_eq a v) as (λ _. (i : ℕ) × (i < length (table f p a (suc k))) × (get_or (table f p a (suc k)) i d ≡ (v, f v))) [
  | inl here ↦
      let all = rows-kept f p a (range_with_len (a + 1) k) (ap p here ∙ kept) in
      rw all (0, omega arith, ap (λ u. (u, f u)) here)
  | inr other ↦
      let later = table-has f p (a + 1) k v d (omega arith) (omega arith) kept in
      rw (rows-cons f p a (range_with_len (a + 1) k)) (by_case (p a) later)
]
  where
    by_case : (b : Bool) → (i : ℕ) × (i < length (table f p (a + 1) k)) × (get_or (table f p (a + 1) k) i d ≡ (v, f v))
        → (i : ℕ) × (i < length (cond b ((a, f a) ∷ table f p (a + 1) k) (table f p (a + 1) k))) × (get_or (cond b ((a, f a) ∷ table f p (a + 1) k) (table f p (a + 1) k)) i d ≡ (v, f v))
    by_case true later = (suc later.0, omega (arith, later.1), later.2)
    by_case false later = later

-- another number for one version, which is kept or not
pub table-set : (f g : ℕ → ℕ) (p q : ℕ → Bool) (a k i v x : ℕ) (d : ℕ × ℕ) → ((u : ℕ) → u ≢ v → (f u ≡ g u) × (p u ≡ q u))
    → i < length (table f p a k) → get_or (table f p a k) i d ≡ (v, x) → table g q a k ≡ cond (q v) (set (table f p a k) i (v, g v)) (remove (table f p a k) i)
table-set f g p q a zero i v x d same within is = absurd (omega arith)
table-set f g p q a (suc k) i v x d same within is = elim (cases_Bool (p a)) as (λ _. table g q a (suc k) ≡ cond (q v) (set (table f p a (suc k)) i (v, g v)) (remove (table f p a (suc k)) i)) [
  | inl kept ↦
      let all = rows-kept f p a (range_with_len (a + 1) k) kept in
      rw all (of_kept kept (λ j inside here. table-set f g p q (a + 1) k j v x d same inside here) i (rw all at within) (rw all at is))
  | inr left ↦
      let all = rows-left f p a (range_with_len (a + 1) k) left in
      let row = table-at f p (a + 1) k i v x d (rw all at within) (rw all at is) in
      let other : a ≢ v = λ here. absurd (omega (arith, row.from)) in
      rw all (rows-left g q a (range_with_len (a + 1) k) (sym (same a other).1 ∙ left) ∙ table-set f g p q (a + 1) k i v x d same (rw all at within) (rw all at is))
]
  where
    past : (b : Bool) (j : ℕ) (rest : List (ℕ × ℕ)) → (a, g a) ∷ cond b (set rest j (v, g v)) (remove rest j) ≡ cond b (set ((a, g a) ∷ rest) (suc j) (v, g v)) (remove ((a, g a) ∷ rest) (suc j))
    past true j rest = refl
    past false j rest = refl

    of_kept : p a ≡ true
        → ((j : ℕ) → j < length (table f p (a + 1) k) → get_or (table f p (a + 1) k) j d ≡ (v, x) → table g q (a + 1) k ≡ cond (q v) (set (table f p (a + 1) k) j (v, g v)) (remove (table f p (a + 1) k) j))
        → (j : ℕ) → j < length ((a, f a) ∷ table f p (a + 1) k) → get_or ((a, f a) ∷ table f p (a + 1) k) j d ≡ (v, x)
        → table g q a (suc k) ≡ cond (q v) (set ((a, f a) ∷ table f p (a + 1) k) j (v, g v)) (remove ((a, f a) ∷ table f p (a + 1) k) j)
    of_kept kept later zero within is =
        let version : a ≡ v = ap (λ (at : ℕ × ℕ). at.0) is in
        let others : table f p (a + 1) k ≡ table g q (a + 1) k = table-same f g p q (a + 1) k (λ u from below. same u (λ here. absurd (omega arith))) in
        rows-cons g q a (range_with_len (a + 1) k)
        ∙ ap (λ l. cond (q a) ((a, g a) ∷ l) l) (sym others)
        ∙ ap (λ u. cond (q u) ((u, g u) ∷ table f p (a + 1) k) (table f p (a + 1) k)) version
    of_kept kept later (suc j) within is =
        let row = table-at f p (a + 1) k j v x d (omega arith) is in
        let other : a ≢ v = λ here. absurd (omega (arith, row.from)) in
        rows-kept g q a (range_with_len (a + 1) k) (sym (same a other).1 ∙ kept)
        ∙ ap (λ l. (a, g a) ∷ l) (later j (omega arith) is)
        ∙ past (q v) j (table f p (a + 1) k)
        ∙ ap (λ n. cond (q v) (set ((a, n) ∷ table f p (a + 1) k) (suc j) (v, g v)) (remove ((a, n) ∷ table f p (a + 1) k) (suc j))) (sym (same a other).0)
