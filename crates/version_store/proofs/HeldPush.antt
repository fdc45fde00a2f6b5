-- What is held after one more entry.
use Rattle.std.proofs.Common.{◌≡◌, ◌≢◌, ℕ, suc, ◌+◌, ◌-◌, ◌<◌, ◌≤◌, Bool, true, false, ◌||◌, cond, eqb, nat_lt, List, [], ◌∷◌, ◌++◌, length, take, get_or, set, refl, sym, ap, inl, inr, ◌∙◌, arith}
use Rattle.std.specs.List.{remove}
use Rattle.std.proofs.lemmas.Bool.{cases_lt, eq-eqb, ne_eqb, lt-ltb}
use Rattle.std.proofs.lemmas.List.{append-nil, drop_all, set-get_or, length_push, get_or_push}
use Rattle.view_meaning.specs.Classes as meaning
use Rattle.version_store.specs.declared.history.What.TheVariants.{Publish, Pin, Unpin}
use Rattle.version_store.specs.declared.history.Entry.{Entry}
use Rattle.version_store.specs.Histories.{journal, IsLegal, pins_out, held}
use Rattle.version_store.proofs.HistoryLaws.{entry_by, journal-publish, journal-pin, journal-unpin}
use Rattle.version_store.proofs.PinsOut.{pins_out-newer, pins_out-publish, pins_out-pin, pins_out-unpin}
use Rattle.version_store.proofs.Tables.{table, table-same, table-more, table-at, table-has, table-set}

-- whether a version is held
abbrev pub is_held : List Entry → ℕ → Bool
is_held h v = eqb v (length (journal h)) || nat_lt 0 (pins_out h v)

pub held-table : (h : List Entry) → held h ≡ table (pins_out h) (is_held h) 0 (length (journal h) + 1)
unfolding held
held-table h = refl

newest_held : (h : List Entry) → is_held h (length (journal h)) ≡ true
newest_held h = rw (eq-eqb (length (journal h)) (length (journal h)) refl) refl

-- what is held is published, with its pins that are out
pub held-at : (h : List Entry) (i v x : ℕ) (d : ℕ × ℕ) → i < length (held h) → get_or (held h) i d ≡ (v, x) → (v ≤ length (journal h)) × (x ≡ pins_out h v)
held-at h i v x d within is =
    let row = table-at (pins_out h) (is_held h) 0 (length (journal h) + 1) i v x d (rw held-table at within) (rw held-table at is) in
    (omega (arith, row.below), row.number)

-- a version with pins that are out is held
pub held-has : (h : List Entry) (v : ℕ) (d : ℕ × ℕ) → 0 < pins_out h v → (i : ℕ) × (i < length (held h)) × (get_or (held h) i d ≡ (v, pins_out h v))
held-has h v d out =
    let published : v ≤ length (journal h) = elim (cases_lt (length (journal h)) v) as (λ _. v ≤ length (journal h)) [
      | inl newer ↦ absurd (omega (arith, out, pins_out-newer h v newer))
      | inr known ↦ known
    ] in
    let kept : is_held h v ≡ true = rw (lt-ltb 0 (pins_out h v) out) (or_true (eqb v (length (journal h)))) in
    rw (held-table h) (table-has (pins_out h) (is_held h) 0 (length (journal h) + 1) v d (omega arith) (omega arith) kept)
  where
    or_true : (b : Bool) → (b || true) ≡ true
    or_true true = refl
    or_true false = refl

held_newest : (h : List Entry) → held h ≡ table (pins_out h) (is_held h) 0 (length (journal h)) ++ (length (journal h), pins_out h (length (journal h))) ∷ []
held_newest h = held-table h ∙ table-more (pins_out h) (is_held h) (length (journal h)) (newest_held h)

pub length-held : (h : List Entry) → 0 < length (held h)
length-held h = rw (held_newest h) (omega (arith, length_push {X = ℕ × ℕ}))

-- the last is the newest version
pub held-last : (h : List Entry) (i : ℕ) (d : ℕ × ℕ) → suc i ≡ length (held h) → get_or (held h) i d ≡ (length (journal h), pins_out h (length (journal h)))
held-last h i d last =
    let n = length (journal h) in
    let others = table (pins_out h) (is_held h) 0 n in
    let all : held h ≡ others ++ (n, pins_out h n) ∷ [] = held_newest h in
    let size : length others ≡ i = omega (arith, last, ap length all, length_push others (n, pins_out h n)) in
    ap (λ l. get_or l i d) all ∙ get_or_push others (n, pins_out h n) d i size

pub held-pin : (h : List Entry) (by i : ℕ) → IsLegal h → suc i ≡ length (held h)
    → held (h ++ entry_by by Pin ∷ []) ≡ set (held h) i (length (journal h), pins_out h (length (journal h)) + 1)
held-pin h by i legal last =
    let after = h ++ entry_by by Pin ∷ [] in
    let n = length (journal h) in
    let newest : length (journal after) ≡ n = ap length (journal-pin h by) in
    let one_more : pins_out after n ≡ pins_out h n + 1 = pins_out-pin h by n legal ∙ ap (λ b. pins_out h n + cond b 1 0) (eq-eqb n n refl) in
    let others : (u : ℕ) → u ≢ n → (pins_out h u ≡ pins_out after u) × (is_held h u ≡ is_held after u) = λ u other.
    let none : eqb n u ≡ false = ne_eqb n u (λ same. other (sym same)) in
    let pins : pins_out after u ≡ pins_out h u = omega (arith, pins_out-pin h by u legal ∙ ap (λ b. pins_out h u + cond b 1 0) none) in
    (sym pins, ap (λ m. eqb u m || nat_lt 0 (pins_out h u)) (sym newest) ∙ ap (λ m. eqb u (length (journal after)) || nat_lt 0 m) (sym pins)) in
    let kept : is_held after n ≡ true = ap (λ v. is_held after v) (sym newest) ∙ newest_held after in
    let within : i < length (held h) = omega arith in
    let here : get_or (held h) i (0, 0) ≡ (n, pins_out h n) = held-last h i (0, 0) last in
    let at : table (pins_out after) (is_held after) 0 (n + 1) ≡ cond (is_held after n) (set (held h) i (n, pins_out after n)) (remove (held h) i) =
    rw (held-table h) (table-set (pins_out h) (pins_out after) (is_held h) (is_held after) 0 (n + 1) i n (pins_out h n) (0, 0) others (rw (held-table h) at within) (rw (held-table h) at here)) in
    held-table after
    ∙ ap (λ m. table (pins_out after) (is_held after) 0 (m + 1)) newest
    ∙ at
    ∙ ap (λ b. cond b (set (held h) i (n, pins_out after n)) (remove (held h) i)) kept
    ∙ ap (λ m. set (held h) i (n, m)) one_more

pub held-publish : (h : List Entry) (by i : ℕ) (edit : meaning.Edit) → suc i ≡ length (held h)
    → held (h ++ entry_by by (Publish edit) ∷ []) ≡ cond (nat_lt 0 (pins_out h (length (journal h)))) (held h) (take i (held h)) ++ (length (journal h) + 1, 0) ∷ []
held-publish h by i edit last =
    let after = h ++ entry_by by (Publish edit) ∷ [] in
    let n = length (journal h) in
    let f = pins_out h in
    let pinned = λ (v : ℕ). nat_lt 0 (f v) in
    let newest : length (journal after) ≡ n + 1 = ap length (journal-publish h by edit) ∙ length_push (journal h) edit in
    let none : pins_out after (n + 1) ≡ 0 = pins_out-publish h by (n + 1) edit ∙ pins_out-newer h (n + 1) (omega arith) in
    let within : i < length (held h) = omega arith in
    let here : get_or (held h) i (0, 0) ≡ (n, f n) = held-last h i (0, 0) last in
    let older : table (pins_out after) (is_held after) 0 (n + 1) ≡ table f pinned 0 (n + 1) = table-same (pins_out after) f (is_held after) pinned 0 (n + 1)
    (λ v from below.
    let pins : pins_out after v ≡ f v = pins_out-publish h by v edit in
    let other : eqb v (length (journal after)) ≡ false = ne_eqb v (length (journal after)) (λ same. absurd (omega arith)) in
    (pins, ap (λ b. b || nat_lt 0 (pins_out after v)) other ∙ ap (λ m. nat_lt 0 m) pins)) in
    let others : (u : ℕ) → u ≢ n → (f u ≡ f u) × (is_held h u ≡ pinned u) = λ u other. (refl, ap (λ b. b || nat_lt 0 (f u)) (ne_eqb u n other)) in
    let superseded : table f pinned 0 (n + 1) ≡ cond (pinned n) (set (held h) i (n, f n)) (remove (held h) i) =
    rw (held-table h) (table-set f f (is_held h) pinned 0 (n + 1) i n (f n) (0, 0) others (rw (held-table h) at within) (rw (held-table h) at here)) in
    let same : set (held h) i (n, f n) ≡ held h = ap (λ at. set (held h) i at) (sym here) ∙ set-get_or (held h) i (0, 0) in
    let gone : remove (held h) i ≡ take i (held h) = ap (λ l. take i (held h) ++ l) (drop_all (suc i) (held h) (omega arith)) ∙ append-nil (take i (held h)) in
    held-table after
    ∙ ap (λ m. table (pins_out after) (is_held after) 0 (m + 1)) newest
    ∙ table-more (pins_out after) (is_held after) (n + 1) (ap (λ v. is_held after v) (sym newest) ∙ newest_held after)
    ∙ ap (λ m. table (pins_out after) (is_held after) 0 (n + 1) ++ (n + 1, m) ∷ []) none
    ∙ ap (λ l. l ++ (n + 1, 0) ∷ []) (older ∙ superseded ∙ ap (λ l. cond (pinned n) l (remove (held h) i)) same ∙ ap (λ l. cond (pinned n) (held h) l) gone)

pub held-unpin : (h : List Entry) (by i v x : ℕ) (d : ℕ × ℕ) → i < length (held h) → get_or (held h) i d ≡ (v, x)
    → held (h ++ entry_by by (Unpin v) ∷ []) ≡ cond (eqb v (length (journal h)) || nat_lt 0 (x - 1)) (set (held h) i (v, x - 1)) (remove (held h) i)
held-unpin h by i v x d within is =
    let after = h ++ entry_by by (Unpin v) ∷ [] in
    let n = length (journal h) in
    let newest : length (journal after) ≡ n = ap length (journal-unpin h by v) in
    let out : x ≡ pins_out h v = (held-at h i v x d within is).1 in
    let one_less : pins_out after v ≡ x - 1 = pins_out-unpin h by v v ∙ ap (λ b. pins_out h v - cond b 1 0) (eq-eqb v v refl) ∙ ap (λ m. m - 1) (sym out) in
    let others : (u : ℕ) → u ≢ v → (pins_out h u ≡ pins_out after u) × (is_held h u ≡ is_held after u) = λ u other.
    let none : eqb v u ≡ false = ne_eqb v u (λ same. other (sym same)) in
    let pins : pins_out after u ≡ pins_out h u = omega (arith, pins_out-unpin h by u v ∙ ap (λ b. pins_out h u - cond b 1 0) none) in
    (sym pins, ap (λ m. eqb u m || nat_lt 0 (pins_out h u)) (sym newest) ∙ ap (λ m. eqb u (length (journal after)) || nat_lt 0 m) (sym pins)) in
    let kept : is_held after v ≡ (eqb v n || nat_lt 0 (x - 1)) = ap (λ m. eqb v m || nat_lt 0 (pins_out after v)) newest ∙ ap (λ m. eqb v n || nat_lt 0 m) one_less in
    let at : table (pins_out after) (is_held after) 0 (n + 1) ≡ cond (is_held after v) (set (held h) i (v, pins_out after v)) (remove (held h) i) =
    rw (held-table h) (table-set (pins_out h) (pins_out after) (is_held h) (is_held after) 0 (n + 1) i v x d others (rw (held-table h) at within) (rw (held-table h) at is)) in
    held-table after
    ∙ ap (λ m. table (pins_out after) (is_held after) 0 (m + 1)) newest
    ∙ at
    ∙ ap (λ b. cond b (set (held h) i (v, pins_out after v)) (remove (held h) i)) kept
    ∙ ap (λ m. cond (eqb v n || nat_lt 0 (x - 1)) (set (held h) i (v, m)) (remove (held h) i)) one_less
