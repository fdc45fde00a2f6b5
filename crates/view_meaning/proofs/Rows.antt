-- Pixels counted row by row.
use Rattle.std.proofs.Common.{◌≡◌, ℕ, zero, suc, ◌+◌, ◌*◌, ◌<◌, ◌≤◌, List, [], length, get_or, ◌∷◌, ◌++◌, refl, sym, ◌∙◌, ap, inl, inr, arith, append-nil}
use Rattle.std.proofs.lemmas.Bool.{cases_lt}
use Rattle.std.proofs.Math.Nat.{mul-le-mul_right}
use Rattle.std.proofs.lemmas.Grind.{flat_map-append}
use Rattle.std.specs.List.{flat_map, range_with_len}
use Rattle.view_meaning.proofs.Nearest.{range_more}

-- two functions that agree on a range
pub flat_map-same : {A : Type 0} (f g : ℕ → List A) → (a n : ℕ) → ((k : ℕ) → a ≤ k → k < a + n → f k ≡ g k) → flat_map f (range_with_len a n) ≡ flat_map g (range_with_len a n)
flat_map-same f g a zero same = refl
flat_map-same f g a (suc n) same =
    ap (λ l. l ++ flat_map f (range_with_len (a + 1) n)) (same a (omega arith) (omega arith))
    ∙ ap (λ l. g a ++ l) (flat_map-same f g (a + 1) n (λ k low high. same k (omega arith) (omega arith)))

-- a range after another
pub range-append : (a m n : ℕ) → range_with_len a (m + n) ≡ range_with_len a m ++ range_with_len (a + m) n
range-append a zero n = let e : n ≡ zero + n = omega arith in let f : a ≡ a + zero = omega arith in ap (λ (k : ℕ). range_with_len a k) (sym e) ∙ ap (λ (k : ℕ). range_with_len k n) f
range-append a (suc m) n =
    let e : suc m + n ≡ suc (m + n) = omega arith in
    let f : a + 1 + m ≡ a + suc m = omega arith in
    ap (λ (k : ℕ). range_with_len a k) e ∙ ap (λ l. a ∷ l) (range-append (a + 1) m n ∙ ap (λ (k : ℕ). range_with_len (a + 1) m ++ range_with_len k n) f)

-- a range that begins later
pub flat_map-shift : {A : Type 0} (f : ℕ → List A) → (a b n : ℕ) → flat_map (λ k. f (a + k)) (range_with_len b n) ≡ flat_map f (range_with_len (a + b) n)
flat_map-shift f a b zero = refl
flat_map-shift f a b (suc n) =
    let e : a + (b + 1) ≡ a + b + 1 = omega arith in
    ap (λ l. f (a + b) ++ l) (flat_map-shift f a (b + 1) n ∙ ap (λ (k : ℕ). flat_map f (range_with_len k n)) e)

-- the rows of a picture, one after another, are its pixels in order
pub flat_map_rows : {A : Type 0} (f : ℕ → List A) → (width height : ℕ)
    → flat_map (λ y. flat_map (λ x. f (y * width + x)) (range_with_len 0 width)) (range_with_len 0 height) ≡ flat_map f (range_with_len 0 (height * width))
flat_map_rows f width zero = let e : zero * width ≡ 0 = omega arith in sym (ap (λ (k : ℕ). flat_map f (range_with_len 0 k)) e)
flat_map_rows f width (suc height) =
    let row = λ (y : ℕ). flat_map (λ x. f (y * width + x)) (range_with_len 0 width) in
    let last : flat_map (λ x. f (height * width + x)) (range_with_len 0 width) ≡ flat_map f (range_with_len (height * width) width) =
    let e : height * width + 0 ≡ height * width = omega arith in flat_map-shift f (height * width) 0 width ∙ ap (λ (k : ℕ). flat_map f (range_with_len k width)) e in
    let size : suc height * width ≡ height * width + width = grind arith in
    let split : range_with_len 0 (suc height * width) ≡ range_with_len 0 (height * width) ++ range_with_len (height * width) width =
    let e : 0 + height * width ≡ height * width = omega arith in
    ap (range_with_len 0) size ∙ range-append 0 (height * width) width ∙ ap (λ (k : ℕ). range_with_len 0 (height * width) ++ range_with_len k width) e in
    ap (flat_map row) (range_more 0 height height (omega arith))
    ∙ flat_map-append row (range_with_len 0 height) (height ∷ [])
    ∙ ap (λ l. flat_map row (range_with_len 0 height) ++ l) (append-nil (row height) ∙ last)
    ∙ ap (λ l. l ++ flat_map f (range_with_len (height * width) width)) (flat_map_rows f width height)
    ∙ sym (flat_map-append f (range_with_len 0 (height * width)) (range_with_len (height * width) width))
    ∙ ap (flat_map f) (sym split)

less_row : (x c y r width : ℕ) → x < width → y < r → y * width + x < r * width + c
less_row x c y r width within below =
    let more : suc y * width ≤ r * width = mul-le-mul_right width below in
    let next : suc y * width ≡ y * width + width = grind arith in
    omega (arith, more, next)

-- two places in a picture with the same pixel number are the same place
pub same_place : (x y c r width : ℕ) → x < width → c < width → y * width + x ≡ r * width + c → (x ≡ c) × (y ≡ r)
same_place x y c r width x_in c_in same =
    elim (cases_lt y r) [
      | inl below ↦ absurd (omega (arith, same, less_row x c y r width x_in below))
      | inr least ↦ elim (cases_lt r y) [
        | inl above ↦ absurd (omega (arith, same, less_row c x r y width c_in above))
        | inr most ↦ let e : y ≡ r = omega arith in (let f : y * width ≡ r * width = ap (λ (k : ℕ). k * width) e in omega (arith, same, f), e)
      ]
    ]

-- the pixel number of a place in a picture is below the number of pixels
pub place_below : (x y width height : ℕ) → x < width → y < height → y * width + x < width * height
place_below x y width height x_in y_in =
    let more : suc y * width ≤ height * width = mul-le-mul_right width y_in in
    let next : suc y * width ≡ y * width + width = grind arith in
    let turned : height * width ≡ width * height = grind arith in
    omega (arith, more, next, turned)

-- a list is its items by their places
pub flat_map-places : {X A : Type 0} (f : X → List A) → (xs : List X) (d : X) → flat_map f xs ≡ flat_map (λ k. f (get_or xs k d)) (range_with_len 0 (length xs))
flat_map-places f [] d = refl
flat_map-places {X} {A} f (x ∷ xs) d =
    let later = λ (k : ℕ). f (get_or (x ∷ xs) k d) in
    let next : flat_map (λ k. f (get_or xs k d)) (range_with_len 0 (length xs)) ≡ flat_map (λ k. later (1 + k)) (range_with_len 0 (length xs)) =
    flat_map-same (λ k. f (get_or xs k d)) (λ k. later (1 + k)) 0 (length xs) (λ k low high. let e : suc k ≡ 1 + k = omega arith in ap later e) in
    ap (λ l. f x ++ l) (flat_map-places f xs d ∙ next ∙ flat_map-shift later 1 0 (length xs))
