-- The entries of one maker.
use Rattle.std.proofs.Common.{◌≡◌, ℕ, zero, suc, ◌+◌, ◌<◌, ◌==◌, Bool, true, false, List, [], ◌∷◌, ◌++◌, length, All, refl, sym, ap, ◌∙◌, arith, append-nil, if◌then◌else◌}
use Rattle.std.proofs.lemmas.Bool.Decides.{nat_tests}
use mathlib.Core.List.{IsPrefix}
use Rattle.turn_gate.specs.Meaning.{made_by}
use Rattle.turn_gate.specs.Rule.{AreOf, kept_times}
use Rattle.turn_gate.proofs.Beginnings.{prefix_whole, prefix_length}

keep : {E : Type 0} (b : Bool) (e : E) (xs ys zs : List E) → zs ≡ xs ++ ys → (if b then e ∷ zs else zs) ≡ (if b then e ∷ xs else xs) ++ ys
keep true e xs ys zs is = ap (λ l. e ∷ l) is
keep false e xs ys zs is = is

pub made_by-append : {E : Type 0} (maker : E → ℕ) (who : ℕ) (xs ys : List E) → made_by maker who (xs ++ ys) ≡ made_by maker who xs ++ made_by maker who ys
made_by-append maker who [] ys = refl
made_by-append maker who (e ∷ es) ys =
    keep (maker e == who) e (made_by maker who es) (made_by maker who ys) (made_by maker who (es ++ ys)) (made_by-append maker who es ys)

is_own : (n who : ℕ) → n ≡ who → (n == who) ≡ true
is_own n who is = grind (arith, nat_tests)

is_other : (n who : ℕ) → ¬ (n ≡ who) → (n == who) ≡ false
is_other n who apart = grind (arith, nat_tests)

-- one more entry by this maker
pub made_by_own : {E : Type 0} (maker : E → ℕ) (who : ℕ) (xs : List E) (e : E) → maker e ≡ who → made_by maker who (xs ++ e ∷ []) ≡ made_by maker who xs ++ e ∷ []
made_by_own maker who xs e is =
    made_by-append maker who xs (e ∷ []) ∙ ap (λ (b : Bool). made_by maker who xs ++ (if b then e ∷ [] else [])) (is_own (maker e) who is)

-- and by another one
pub made_by_other : {E : Type 0} (maker : E → ℕ) (who : ℕ) (xs : List E) (e : E) → ¬ (maker e ≡ who) → made_by maker who (xs ++ e ∷ []) ≡ made_by maker who xs
made_by_other maker who xs e apart =
    made_by-append maker who xs (e ∷ []) ∙ ap (λ (b : Bool). made_by maker who xs ++ (if b then e ∷ [] else [])) (is_other (maker e) who apart) ∙ append-nil (made_by maker who xs)

-- where all makers have lower numbers
pub made_by_none : {E : Type 0} (maker : E → ℕ) (who : ℕ) (xs : List E) → All (λ e. maker e < who) xs → made_by maker who xs ≡ []
made_by_none maker who [] each = refl
made_by_none maker who (e ∷ es) each =
    let later = made_by_none maker who es (λ k d low. each (suc k) d (omega arith)) in
    let here = each 0 e (omega arith) in
    ap (λ (b : Bool). if b then e ∷ made_by maker who es else made_by maker who es) (is_other (maker e) who (omega arith)) ∙ later

pub made_by_prefix : {E : Type 0} (maker : E → ℕ) (who : ℕ) (xs ys : List E) → IsPrefix xs ys → IsPrefix (made_by maker who xs) (made_by maker who ys)
made_by_prefix maker who xs ys p = (made_by maker who p.0, sym (made_by-append maker who xs p.0) ∙ ap (made_by maker who) p.1)

-- a list between two that have the same entries of this maker
pub made_by_between : {E : Type 0} (maker : E → ℕ) (who : ℕ) (xs ys zs own : List E) → IsPrefix xs ys → IsPrefix ys zs
    → made_by maker who xs ≡ own → made_by maker who zs ≡ own → made_by maker who ys ≡ own
made_by_between maker who xs ys zs own p q low high =
    let a = prefix_length (made_by maker who xs) (made_by maker who ys) (made_by_prefix maker who xs ys p) in
    let l : length (made_by maker who xs) ≡ length own = ap length low in
    let h : length (made_by maker who zs) ≡ length own = ap length high in
    prefix_whole (made_by maker who ys) (made_by maker who zs) (made_by_prefix maker who ys zs q) (omega arith) ∙ high

pub all_snoc : {E : Type 0} (P : E → Type 0) (xs : List E) (e : E) → All P xs → P e → All P (xs ++ e ∷ [])
all_snoc P [] e each here zero d low = here
all_snoc P [] e each here (suc k) d low = absurd (omega arith)
all_snoc P (x ∷ xs) e each here zero d low = each 0 d (omega arith)
all_snoc P (x ∷ xs) e each here (suc k) d low = all_snoc P xs e (λ i d' low'. each (suc i) d' (omega arith)) here k d (omega arith)

pub all_weaker : {E : Type 0} (P Q : E → Type 0) (xs : List E) → ((e : E) → P e → Q e) → All P xs → All Q xs
all_weaker P Q [] weaker each k d low = absurd (omega arith)
all_weaker P Q (x ∷ xs) weaker each zero d low = weaker x (each 0 d (omega arith))
all_weaker P Q (x ∷ xs) weaker each (suc k) d low = all_weaker P Q xs weaker (λ i d' low'. each (suc i) d' (omega arith)) k d (omega arith)

kept_apart : (n who more : ℕ) → (if n == who then 1 else 0) + more ≡ 0 → (¬ (who ≡ n)) × (more ≡ 0)
kept_apart n who more none = (λ e. grind (arith, nat_tests), grind (arith, nat_tests))

-- an entry by a number that isn't listed
pub are_of_more : {E : Type 0} (replays : List E → Type 0) (maker : E → ℕ) (log : List E) (ks : List (ℕ × List E)) (e : E) → kept_times (maker e) ks ≡ 0 → AreOf replays maker log ks → AreOf replays maker (log ++ e ∷ []) ks
are_of_more replays maker log [] e none each = tt
are_of_more replays maker log (k ∷ ks) e none each =
    let apart = kept_apart k.0 (maker e) (kept_times (maker e) ks) none in
    (made_by_other maker k.0 log e apart.0 ∙ each.0, are_of_more replays maker log ks e apart.1 each.1)

-- one more number is listed
pub are_of_snoc : {E : Type 0} (replays : List E → Type 0) (maker : E → ℕ) (log : List E) (ks : List (ℕ × List E)) (who : ℕ) (mine : List E) → made_by maker who log ≡ mine → AreOf replays maker log ks → AreOf replays maker log (ks ++ (who, mine) ∷ [])
are_of_snoc replays maker log [] who mine own each = (own, tt)
are_of_snoc replays maker log (k ∷ ks) who mine own each = (each.0, are_of_snoc replays maker log ks who mine own each.1)

pub kept_times-snoc : {E : Type 0} (n : ℕ) (ks : List (ℕ × List E)) (who : ℕ) (mine : List E) → kept_times n (ks ++ (who, mine) ∷ []) ≡ kept_times n ks + kept_times n ((who, mine) ∷ [])
kept_times-snoc n [] who mine = omega arith
kept_times-snoc n (k ∷ ks) who mine = let later = kept_times-snoc n ks who mine in omega arith
