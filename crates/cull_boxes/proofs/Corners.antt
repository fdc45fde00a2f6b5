-- The corners of a box along a normal: one of them is as far as any point of the box.
use Rattle.std.proofs.Common.{◌≡◌, ◌⊎◌, inl, inr, ◌↔◌, ◌∙◌, ℕ, zero, suc, Bool, true, false, cond, ℤ, pos, negsuc, ◌+ℤ◌, ◌-ℤ◌, ◌*ℤ◌, ◌<ℤ◌, ◌≤ℤ◌, List, refl, ap, subst, sym, arith}
use Rattle.std.specs.Prelude.{IsTrue}
use Rattle.std.specs.List.{All, Any, Contains}
use Rattle.std.specs.Int.{int_max, int_min}
use Rattle.std.proofs.lemmas.Int.{ints, clamps, by_lt_z}
use Rattle.std.proofs.lemmas.List.Elements.{All-contains}
use lib.Signed.{le_z, lt_z}
use Rattle.view_base.specs.declared.place.Point.{Point}
use Rattle.view_base.specs.declared.place.Box3.{Box3}
use Rattle.view_meaning.specs.Camera.{Lens}
use Rattle.view_meaning.specs.Classes.{in_box}
use Rattle.int_camera.specs.declared.half_space.HalfSpace.{HalfSpace}
use Rattle.int_camera.specs.HalfSpaces.{Meets, half_spaces}
use Rattle.int_camera.proofs.Multiples.{mul-sub, neg-mul}
use Rattle.grid_blocks.proofs.Boxes.{IsInside, inside-from_box}
use Rattle.cull_boxes.specs.Outside.{Excludes, IsOutside, corners}

-- one end of a range or the other
abbrev pub end_of : Bool → ℤ → ℤ → ℤ
end_of far low high = cond far high low

-- the corner of a box that has these ends
abbrev pub corner : Box3 → Bool → Bool → Bool → Point
corner area i j k = record { x = end_of i area.min.x area.max.x; y = end_of j area.min.y area.max.y; z = end_of k area.min.z area.max.z }

-- each is among the eight
pub corners-has : (area : Box3) (i j k : Bool) → Contains (corners area) (corner area i j k)
corners-has area false false false = (0, omega arith, refl)
corners-has area true false false = (1, omega arith, refl)
corners-has area false true false = (2, omega arith, refl)
corners-has area true true false = (3, omega arith, refl)
corners-has area false false true = (4, omega arith, refl)
corners-has area true false true = (5, omega arith, refl)
corners-has area false true true = (6, omega arith, refl)
corners-has area true true true = (7, omega arith, refl)

-- what holds of each of the eight
pub all_corners : (P : Point → Type 0) (area : Box3) → ((i j k : Bool) → P (corner area i j k)) → All P (corners area)
all_corners P area each zero d lt = each false false false
all_corners P area each (suc zero) d lt = each true false false
all_corners P area each (suc (suc zero)) d lt = each false true false
all_corners P area each (suc (suc (suc zero))) d lt = each true true false
all_corners P area each (suc (suc (suc (suc zero)))) d lt = each false false true
all_corners P area each (suc (suc (suc (suc (suc zero))))) d lt = each true false true
all_corners P area each (suc (suc (suc (suc (suc (suc zero)))))) d lt = each false true true
all_corners P area each (suc (suc (suc (suc (suc (suc (suc zero))))))) d lt = each true true true
all_corners P area each (suc (suc (suc (suc (suc (suc (suc (suc n)))))))) d lt = absurd (omega arith)

-- neither end of a range is farther than the farther one
no_farther : (part low high far : ℤ) (i : Bool) → far ≡ int_max (part *ℤ low) (part *ℤ high) → (part *ℤ end_of i low high) ≤ℤ far
no_farther part low high far false is = omega (arith, ints, clamps)
no_farther part low high far true is = omega (arith, ints, clamps)

greater_cases : (a b far : ℤ) → far ≡ int_max a b → (far ≡ a) ⊎ (far ≡ b)
greater_cases a b far is = grind (arith, ints)

-- it is one of the two
far_end : (part low high far : ℤ) → far ≡ int_max (part *ℤ low) (part *ℤ high) → (i : Bool) × (far ≡ part *ℤ end_of i low high)
far_end part low high far is = elim (greater_cases (part *ℤ low) (part *ℤ high) far is) [
  | inl here ↦ (false, here)
  | inr here ↦ (true, here)
]

-- a half-space that begins past the farthest corner has none of them, and no other half-space is so
pub excludes-farthest : (h : HalfSpace) (area : Box3) (x y z : ℤ)
    → x ≡ int_max (h.nx *ℤ area.min.x) (h.nx *ℤ area.max.x) → y ≡ int_max (h.ny *ℤ area.min.y) (h.ny *ℤ area.max.y) → z ≡ int_max (h.nz *ℤ area.min.z) (h.nz *ℤ area.max.z)
    → ((x +ℤ y +ℤ z) <ℤ h.c) ↔ Excludes h area
excludes-farthest h area x y z at_x at_y at_z = (
  (λ (past : (x +ℤ y +ℤ z) <ℤ h.c). all_corners (λ (p : Point). ¬ Meets h p) area
      (λ i j k (meets : Meets h (corner area i j k)).
      absurd (omega (arith, ints, past, meets, no_farther h.nx area.min.x area.max.x x i at_x, no_farther h.ny area.min.y area.max.y y j at_y, no_farther h.nz area.min.z area.max.z z k at_z)))),
  (λ (none : Excludes h area).
      let i = far_end h.nx area.min.x area.max.x x at_x in
      let j = far_end h.ny area.min.y area.max.y y at_y in
      let k = far_end h.nz area.min.z area.max.z z at_z in
      let missed : ¬ Meets h (corner area i.0 j.0 k.0) = All-contains (λ (p : Point). ¬ Meets h p) (corners area) (corner area i.0 j.0 k.0) none (corners-has area i.0 j.0 k.0) in
      before _ _ _ _ _ _ _ i.1 j.1 k.1 missed),
)
  where
    before : (x y z at_x at_y at_z c : ℤ) → x ≡ at_x → y ≡ at_y → z ≡ at_z → ¬ (c ≤ℤ (at_x +ℤ at_y +ℤ at_z)) → (x +ℤ y +ℤ z) <ℤ c
    before x y z at_x at_y at_z c is_x is_y is_z missed =
        by_lt_z (x +ℤ y +ℤ z) c (λ (lt : (x +ℤ y +ℤ z) <ℤ c). lt) (λ (le : c ≤ℤ (x +ℤ y +ℤ z)). absurd (missed (omega (arith, ints, le, is_x, is_y, is_z))))

-- a product rises with its second number where the first is not negative
product-rises : (n : ℕ) (a b : ℤ) → a ≤ℤ b → (pos n *ℤ a) ≤ℤ (pos n *ℤ b)
product-rises n a b le = by_gap (b -ℤ a) refl where
  by_gap : (d : ℤ) → d ≡ b -ℤ a → (pos n *ℤ a) ≤ℤ (pos n *ℤ b)
  by_gap (pos k) is =
      let parts : pos n *ℤ pos k ≡ pos n *ℤ b -ℤ pos n *ℤ a = ap (λ (z : ℤ). pos n *ℤ z) is ∙ mul-sub (pos n) b a in
      omega (arith, ints, parts)
  by_gap (negsuc k) is = absurd (omega (arith, ints))

-- the greater of two numbers in order
greater_second : (a b : ℤ) → a ≤ℤ b → b ≡ int_max a b
greater_second a b le = grind (arith, ints)

greater_first : (a b : ℤ) → b ≤ℤ a → a ≡ int_max a b
greater_first a b le = grind (arith, ints)

lesser_first : (a b : ℤ) → a ≤ℤ b → a ≡ int_min a b
lesser_first a b le = grind (arith, ints)

lesser_second : (a b : ℤ) → b ≤ℤ a → b ≡ int_min a b
lesser_second a b le = grind (arith, ints)

-- a product falls with its second number where the first is negative
product-falls : (n : ℕ) (a b : ℤ) → a ≤ℤ b → (negsuc n *ℤ b) ≤ℤ (negsuc n *ℤ a)
product-falls n a b le =
    let rises = product-rises (suc n) a b le in
    omega (arith, ints, rises, neg-mul (pos (suc n)) a, neg-mul (pos (suc n)) b)

-- the greater of two numbers gives the greater product where the part isn't negative
pub product-greater : (part a b : ℤ) → pos 0 ≤ℤ part → (part *ℤ int_max a b) ≡ int_max (part *ℤ a) (part *ℤ b)
product-greater (pos n) a b up = by_lt_z a b
    (λ (lt : a <ℤ b). let le : a ≤ℤ b = omega (arith, ints, lt) in
    ap (λ (z : ℤ). pos n *ℤ z) (sym (greater_second a b le)) ∙ greater_second (pos n *ℤ a) (pos n *ℤ b) (product-rises n a b le))
    (λ (le : b ≤ℤ a).
    ap (λ (z : ℤ). pos n *ℤ z) (sym (greater_first a b le)) ∙ greater_first (pos n *ℤ a) (pos n *ℤ b) (product-rises n b a le))
product-greater (negsuc n) a b up = absurd (omega (arith, ints, up))

-- and the lesser where it is
pub product-lesser : (part a b : ℤ) → ¬ (pos 0 ≤ℤ part) → (part *ℤ int_min a b) ≡ int_max (part *ℤ a) (part *ℤ b)
product-lesser (pos n) a b down = absurd (down (omega (arith, ints)))
product-lesser (negsuc n) a b down = by_lt_z a b
    (λ (lt : a <ℤ b). let le : a ≤ℤ b = omega (arith, ints, lt) in
    ap (λ (z : ℤ). negsuc n *ℤ z) (sym (lesser_first a b le)) ∙ greater_first (negsuc n *ℤ a) (negsuc n *ℤ b) (product-falls n a b le))
    (λ (le : b ≤ℤ a).
    ap (λ (z : ℤ). negsuc n *ℤ z) (sym (lesser_second a b le)) ∙ greater_second (negsuc n *ℤ a) (negsuc n *ℤ b) (product-falls n b a le))

-- no number of a range is farther than one of its ends
pub end-past : (part low high at : ℤ) → low ≤ℤ at → at ≤ℤ high → (i : Bool) × ((part *ℤ at) ≤ℤ (part *ℤ end_of i low high))
end-past (pos n) low high at above below = (true, product-rises n at high below)
end-past (negsuc n) low high at above below =
    let rises = product-rises (suc n) low at above in
    (false, omega (arith, ints, rises, neg-mul (pos (suc n)) low, neg-mul (pos (suc n)) at))

in_order : (a b : ℤ) → le_z a b ≡ true → a ≤ℤ b
in_order a b is = grind (arith, ints)

order_told : (a b : ℤ) → a ≤ℤ b → le_z a b ≡ true
order_told a b le = grind (arith, ints)

-- a test of the order of two numbers
pub le_z_tells : (a b : ℤ) → IsTrue (le_z a b) ↔ a ≤ℤ b
le_z_tells a b = (in_order a b, order_told a b)

-- a half-space without corners of a box has no point of it
pub excludes-point : (h : HalfSpace) (area : Box3) (p : Point) → Excludes h area → IsTrue (in_box area p) → ¬ Meets h p
excludes-point h area p none within = λ (meets : Meets h p).
    let inside : IsInside area p = inside-from_box area p within in
    let i = end-past h.nx area.min.x area.max.x p.x (in_order _ _ inside.above_x) (in_order _ _ inside.below_x) in
    let j = end-past h.ny area.min.y area.max.y p.y (in_order _ _ inside.above_y) (in_order _ _ inside.below_y) in
    let k = end-past h.nz area.min.z area.max.z p.z (in_order _ _ inside.above_z) (in_order _ _ inside.below_z) in
    All-contains (λ (q : Point). ¬ Meets h q) (corners area) (corner area i.0 j.0 k.0) none (corners-has area i.0 j.0 k.0) (omega (arith, ints, meets, i.1, j.1, k.1))

past_true : (a b : ℤ) → a <ℤ b → lt_z a b ≡ true
past_true a b lt = grind (arith, ints)

true_past : (a b : ℤ) → lt_z a b ≡ true → a <ℤ b
true_past a b is = grind (arith, ints)

-- the same of a sum that is told by a test
pub excludes-told : (h k : HalfSpace) (area : Box3) (x y z sum begins : ℤ) → h ≡ k
    → x ≡ int_max (h.nx *ℤ area.min.x) (h.nx *ℤ area.max.x) → y ≡ int_max (h.ny *ℤ area.min.y) (h.ny *ℤ area.max.y) → z ≡ int_max (h.nz *ℤ area.min.z) (h.nz *ℤ area.max.z)
    → sum ≡ x +ℤ y +ℤ z → begins ≡ h.c → IsTrue (lt_z sum begins) ↔ Excludes k area
excludes-told h k area x y z sum begins same at_x at_y at_z of_sum of_c =
    let told = excludes-farthest h area x y z at_x at_y at_z in
    subst (λ (g : HalfSpace). IsTrue (lt_z sum begins) ↔ Excludes g area) same (
      (λ (past : IsTrue (lt_z sum begins)). told.0 (subst (λ (c : ℤ). (x +ℤ y +ℤ z) <ℤ c) of_c (subst (λ (s : ℤ). s <ℤ begins) of_sum (true_past sum begins past)))),
      (λ (none : Excludes h area). past_true sum begins (subst (λ (c : ℤ). sum <ℤ c) (sym of_c) (subst (λ (s : ℤ). s <ℤ h.c) (sym of_sum) (told.1 none)))),
    )

-- what a test that failed says
pub untrue : (told : Bool) (E : Type 0) → (E → IsTrue told) → told ≡ false → ¬ E
untrue told E says is = λ (e : E). let yes : told ≡ true = says e in absurd (cc (yes, is))

-- a camera's half-spaces say which boxes are outside
pub tells_outside : (lens : Lens) (hs : List HalfSpace) → hs ≡ half_spaces lens → (area : Box3) → Any (λ h. Excludes h area) hs ↔ IsOutside lens area
tells_outside lens hs are area = (
  (λ (some : Any (λ h. Excludes h area) hs). subst (λ (gs : List HalfSpace). Any (λ h. Excludes h area) gs) are some),
  (λ (outside : IsOutside lens area). subst (λ (gs : List HalfSpace). Any (λ h. Excludes h area) gs) (sym are) outside),
)

-- a box whose corners one of some half-spaces has none of has no point that lies in them all
pub excludes-all : (hs : List HalfSpace) (area : Box3) (p : Point) → Any (λ h. Excludes h area) hs → IsTrue (in_box area p) → ¬ All (λ h. Meets h p) hs
excludes-all hs area p some within = λ (all : All (λ h. Meets h p) hs).
    let h : HalfSpace = some.1 in
    let meets : Meets h p = subst (λ (g : HalfSpace). Meets g p) some.3 (all some.0 h some.2) in
    excludes-point h area p some.4 within meets
