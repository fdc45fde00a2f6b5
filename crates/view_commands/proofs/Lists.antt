-- What holds of each item of a list and its place, and of the items of two lists place by place.
use Rattle.std.proofs.Common.{◌≡◌, ℕ, zero, suc, ◌+◌, ◌<◌, List, [], ◌∷◌, ◌++◌, length, map, refl, sym, ap, subst, arith}
use Rattle.std.specs.Prelude.{slice_get, slice_index_or, Some}
use Rattle.std.specs.List.{AllZip, All}
use Rattle.std.proofs.lemmas.List.Elements.{All-head, All-tail}
use Rattle.view_commands.specs.Steps.{EachFrom}

pub each-append : {X : Type 0} (P : ℕ → X → Type 0) (k : ℕ) (xs : List X) (x : X) → EachFrom P k xs → P (k + length xs) x → EachFrom P k (xs ++ x ∷ [])
each-append P k [] x each last = (subst (λ (n : ℕ). P n x) (omega arith) last, tt)
each-append P k (y ∷ ys) x each last = (each.0, each-append P (k + 1) ys x each.1 (subst (λ (n : ℕ). P n x) (omega arith) last))

-- what is so of each is so in other words
pub each-map : {X : Type 0} (P Q : ℕ → X → Type 0) (k : ℕ) (xs : List X) → ((j : ℕ) (x : X) → P j x → Q j x) → EachFrom P k xs → EachFrom Q k xs
each-map P Q k [] each all = tt
each-map P Q k (x ∷ xs) each all = (each k x all.0, each-map P Q (k + 1) xs each all.1)

-- what is so of each item is so of the one at a place
pub each-at : {X : Type 0} (P : ℕ → X → Type 0) (k : ℕ) (xs : List X) (i : ℕ) (x : X) → EachFrom P k xs → slice_get xs i ≡ Some x → P (k + i) x
each-at {X} P k [] i x each is = absurd (cc is)
each-at {X} P k (y ∷ ys) zero x each is =
    let same : y ≡ x = cc is in
    subst (λ (n : ℕ). P n x) (omega arith) (subst (λ (z : X). P k z) same each.0)
each-at {X} P k (y ∷ ys) (suc i) x each is = subst (λ (n : ℕ). P n x) (omega arith) (each-at P (k + 1) ys i x each.1 is)

pub zip_append : {A B : Type 0} (R : A → B → Type 0) (xs : List A) (xs′ : List B) (ys : List A) (ys′ : List B) → AllZip R xs xs′ → AllZip R ys ys′ → AllZip R (xs ++ ys) (xs′ ++ ys′)
zip_append R [] [] ys ys′ front back = back
zip_append R [] (x ∷ xs) ys ys′ front back = absurd front
zip_append R (x ∷ xs) [] ys ys′ front back = absurd front
zip_append R (x ∷ xs) (x′ ∷ xs′) ys ys′ front back = (front.0, zip_append R xs xs′ ys ys′ front.1 back)

pub zip-length : {A B : Type 0} (R : A → B → Type 0) (xs : List A) (ys : List B) → AllZip R xs ys → length ys ≡ length xs
zip-length R [] [] each = refl
zip-length R [] (y ∷ ys) each = absurd each
zip-length R (x ∷ xs) [] each = absurd each
zip-length R (x ∷ xs) (y ∷ ys) each = ap (λ (n : ℕ). suc n) (zip-length R xs ys each.1)

-- what is so of each of two lists place by place
pub each-zip : {A B : Type 0} (P : ℕ → A → Type 0) (R : A → B → Type 0) (Q : ℕ → B → Type 0) (k : ℕ) (xs : List A) (ys : List B) → ((j : ℕ) (x : A) (y : B) → P j x → R x y → Q j y) → EachFrom P k xs → AllZip R xs ys → EachFrom Q k ys
each-zip P R Q k [] [] both each zip = tt
each-zip P R Q k [] (y ∷ ys) both each zip = absurd zip
each-zip P R Q k (x ∷ xs) [] both each zip = absurd zip
each-zip P R Q k (x ∷ xs) (y ∷ ys) both each zip = (both k x y each.0 zip.0, each-zip P R Q (k + 1) xs ys both each.1 zip.1)

-- an item at a place of a list lies within it
pub below : {X : Type 0} (xs : List X) (i : ℕ) (x : X) → slice_get xs i ≡ Some x → i < length xs
below [] i x is = absurd (cc is)
below (y ∷ ys) zero x is = omega arith
below (y ∷ ys) (suc i) x is = let one = below ys i x is in omega (arith, one)

pub slice_get-map : {A B : Type 0} (f : A → B) (xs : List A) (i : ℕ) (y : B) → slice_get (map f xs) i ≡ Some y → (x : A) × (slice_get xs i ≡ Some x) × (y ≡ f x)
slice_get-map f [] i y is = absurd (cc is)
slice_get-map f (x ∷ xs) zero y is = (x, refl, cc is)
slice_get-map f (x ∷ xs) (suc i) y is = slice_get-map f xs i y is

-- there is an item at each place within a list
pub at-within : {X : Type 0} (xs : List X) (i : ℕ) → i < length xs → (x : X) × (slice_get xs i ≡ Some x)
at-within [] i within = absurd (omega (arith, within))
at-within (x ∷ xs) zero within = (x, refl)
at-within (x ∷ xs) (suc i) within = at-within xs i (omega (arith, within))

-- what is so of each image is so of the one of an item
pub all_map-at : {X Y : Type 0} (P : Y → Type 0) (f : X → Y) (xs : List X) (i : ℕ) (x : X) → All P (map f xs) → slice_get xs i ≡ Some x → P (f x)
all_map-at {X} P f [] i x all is = absurd (cc is)
all_map-at {X} P f (y ∷ ys) zero x all is = subst (λ (z : X). P (f z)) (cc is) (All-head P (f y) (map f ys) all)
all_map-at {X} P f (y ∷ ys) (suc i) x all is = all_map-at P f ys i x (All-tail P (f y) (map f ys) all) is

pub map_slice_get : {A B : Type 0} (f : A → B) (xs : List A) (i : ℕ) (x : A) → slice_get xs i ≡ Some x → slice_get (map f xs) i ≡ Some (f x)
map_slice_get f [] i x is = absurd (cc is)
map_slice_get f (y ∷ ys) zero x is = cc is
map_slice_get f (y ∷ ys) (suc i) x is = map_slice_get f ys i x is

-- what is so of the items at each place of two lists that are as long
pub zip-from : {X : Type 0} (R : X → X → Type 0) (xs ys : List X) → length ys ≡ length xs → ((k : ℕ) (d : X) → k < length xs → R (slice_index_or xs k d) (slice_index_or ys k d)) → AllZip R xs ys
zip-from R [] [] size each = tt
zip-from R [] (y ∷ ys) size each = absurd (omega (arith, size))
zip-from R (x ∷ xs) [] size each = absurd (omega (arith, size))
zip-from R (x ∷ xs) (y ∷ ys) size each = (each 0 x (omega arith), zip-from R xs ys (omega (arith, size)) (λ k d below. each (suc k) d (omega (arith, below))))
