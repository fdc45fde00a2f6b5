-- Beginnings of one list.
use Rattle.std.proofs.Common.{◌≡◌, ℕ, ◌<◌, ◌≤◌, max, nat_lt, true, false, ◌⊎◌, inl, inr, ⊎_elim, subst, List, [], ◌∷◌, ◌++◌, length, refl, ap, sym, ◌∙◌, arith, append_assoc, length-append}
use Rattle.std.proofs.lemmas.Bool.Decides.{nat_tests}
use mathlib.Core.List.{IsPrefix}
use mathlib.Core.Logic.{dite}
use native.Mathlib.Decide.{dec_le}
use Rattle.turn_gate.specs.Meaning.{longer, shorter}

-- each list begins with itself
pub prefix_self : {A : Type 0} (xs : List A) → IsPrefix xs xs
prefix_self [] = ([], refl)
prefix_self (x ∷ xs) = (let r = prefix_self xs in r.0, ap (λ ys. x ∷ ys) (prefix_self xs).1)

pub prefix_nil : {A : Type 0} (xs : List A) → IsPrefix [] xs
prefix_nil xs = (xs, refl)

pub prefix_append : {A : Type 0} (xs ys : List A) → IsPrefix xs (xs ++ ys)
prefix_append xs ys = (ys, refl)

pub prefix_trans : {A : Type 0} (xs ys zs : List A) → IsPrefix xs ys → IsPrefix ys zs → IsPrefix xs zs
prefix_trans xs ys zs p q = (p.0 ++ q.0, sym (append_assoc xs p.0 q.0) ∙ (ap (λ w. w ++ q.0) p.1 ∙ q.1))

-- of two beginnings of one list the shorter begins the longer
pub prefix_shorter : {A : Type 0} (xs ys zs : List A) → IsPrefix xs zs → IsPrefix ys zs → length xs ≤ length ys → IsPrefix xs ys
prefix_shorter [] ys zs p q le = (ys, refl)
prefix_shorter (x ∷ xs) [] zs p q le = absurd (omega arith)
prefix_shorter (x ∷ xs) (y ∷ ys) [] p q le = absurd (cc (p.1))
prefix_shorter (x ∷ xs) (y ∷ ys) (z ∷ zs) p q le =
    let heads : x ≡ y = cc (p.1, q.1) in
    let rest = prefix_shorter xs ys zs (p.0, cc (p.1)) (q.0, cc (q.1)) (omega arith) in
    (rest.0, cc (heads, rest.1))

-- a beginning as long as the whole is the whole
pub prefix_whole : {A : Type 0} (xs ys : List A) → IsPrefix xs ys → length ys ≤ length xs → xs ≡ ys
prefix_whole [] [] p le = refl
prefix_whole [] (y ∷ ys) p le = absurd (omega arith)
prefix_whole (x ∷ xs) [] p le = absurd (cc (p.1))
prefix_whole (x ∷ xs) (y ∷ ys) p le =
    let rest = prefix_whole xs ys (p.0, cc (p.1)) (omega arith) in cc (p.1, rest)

pub prefix_length : {A : Type 0} (xs ys : List A) → IsPrefix xs ys → length xs ≤ length ys
prefix_length xs ys p = omega (arith, sym (ap length p.1) ∙ length-append xs p.0)

not_below : (m n : ℕ) → n ≤ m → nat_lt m n ≡ false
not_below m n le = grind (arith, nat_tests)

below : (m n : ℕ) → m < n → nat_lt m n ≡ true
below m n low = grind (arith, nat_tests)

-- which of two lists is the longer
pub longer_is : {A : Type 0} (xs ys : List A) → ((length xs < length ys) × (longer xs ys ≡ ys) × (shorter xs ys ≡ xs)) ⊎ ((length ys ≤ length xs) × (longer xs ys ≡ xs) × (shorter xs ys ≡ ys))
longer_is xs ys =
    dite (dec_le (length ys) (length xs))
    (λ h. let no : nat_lt (length xs) (length ys) ≡ false = not_below (length xs) (length ys) h in inr (h, rw no refl, rw no refl))
    (λ h. let yes : nat_lt (length xs) (length ys) ≡ true = below (length xs) (length ys) (omega (arith, h)) in inl (omega (arith, h), rw yes refl, rw yes refl))

-- what holds of both lists holds of the longer one
pub longer_has : {A : Type 0} (P : List A → Type 0) (xs ys : List A) → P xs → P ys → P (longer xs ys)
longer_has P xs ys one other = ⊎_elim (λ h. subst P (sym h.1) other) (λ h. subst P (sym h.1) one) (longer_is xs ys)

pub longer-length : {A : Type 0} (xs ys : List A) → length (longer xs ys) ≡ max (length xs) (length ys)
longer-length xs ys = ⊎_elim (λ h. ap length h.1 ∙ omega (arith, h.0)) (λ h. ap length h.1 ∙ omega (arith, h.0)) (longer_is xs ys)

-- of two beginnings of one list
pub longer_first : {A : Type 0} (xs ys zs : List A) → IsPrefix xs zs → IsPrefix ys zs → IsPrefix xs (longer xs ys)
longer_first xs ys zs p q =
    ⊎_elim (λ h. subst (IsPrefix xs) (sym h.1) (prefix_shorter xs ys zs p q (omega (arith, h.0)))) (λ h. subst (IsPrefix xs) (sym h.1) (prefix_self xs)) (longer_is xs ys)

pub longer_second : {A : Type 0} (xs ys zs : List A) → IsPrefix xs zs → IsPrefix ys zs → IsPrefix ys (longer xs ys)
longer_second xs ys zs p q =
    ⊎_elim (λ h. subst (IsPrefix ys) (sym h.1) (prefix_self ys)) (λ h. subst (IsPrefix ys) (sym h.1) (prefix_shorter ys xs zs q p h.0)) (longer_is xs ys)

pub shorter_longer : {A : Type 0} (xs ys zs : List A) → IsPrefix xs zs → IsPrefix ys zs → IsPrefix (shorter xs ys) (longer xs ys)
shorter_longer xs ys zs p q =
    ⊎_elim
    (λ h. subst (λ l. IsPrefix l (longer xs ys)) (sym h.2) (longer_first xs ys zs p q))
    (λ h. subst (λ l. IsPrefix l (longer xs ys)) (sym h.2) (longer_second xs ys zs p q))
    (longer_is xs ys)

-- where the shorter begins the longer, both do
pub both_begin : {A : Type 0} (xs ys : List A) → IsPrefix (shorter xs ys) (longer xs ys) → IsPrefix xs (longer xs ys) × IsPrefix ys (longer xs ys)
both_begin xs ys p =
    ⊎_elim
    (λ h. (subst (λ l. IsPrefix l (longer xs ys)) h.2 p, subst (IsPrefix ys) (sym h.1) (prefix_self ys)))
    (λ h. (subst (IsPrefix xs) (sym h.1) (prefix_self xs), subst (λ l. IsPrefix l (longer xs ys)) h.2 p))
    (longer_is xs ys)
