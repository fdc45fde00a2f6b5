-- A point is in view exactly where it lies in each of the six half-spaces.
use Rattle.std.proofs.Common.{◌≡◌, ◌∙◌, ℕ, zero, suc, ◌+◌, ◌-◌, ◌*◌, ◌/◌, ◌<◌, ◌≤◌, ◌⊎◌, inl, inr, ◌↔◌, ℤ, pos, negsuc, neg_ℤ, ◌+ℤ◌, ◌-ℤ◌, ◌*ℤ◌, ◌<ℤ◌, ◌≤ℤ◌, Option, Some, None, IsSome, [], ◌∷◌, All, refl, ap, mul-le-mul, subst, arith}
use Rattle.std.proofs.Math.IntN.{*ℤ_comm}
use Rattle.std.proofs.Math.Nat.{le-div_iff_mul-le, div-lt_iff_lt-mul}
use Rattle.std.proofs.lemmas.Bool.{cases_lt}
use Rattle.std.proofs.lemmas.Bool.Decides.{nat_tests}
use Rattle.std.proofs.lemmas.Int.{ints}
use Rattle.std.proofs.lemmas.List.Elements.{All-cons, All-nil}
use Rattle.view_base.specs.declared.place.Point.{Point}
use Rattle.view_meaning.specs.Camera.{Projection, orthographic, perspective, Lens, spot, spot_of, spot_by, perspective_spot, dot, away, floor, from_edge, between}
use Rattle.int_camera.specs.declared.half_space.HalfSpace.{HalfSpace}
use Rattle.int_camera.specs.Limits.{near_range}
use Rattle.int_camera.specs.Kept.{IsCamera}
use Rattle.int_camera.specs.HalfSpaces.{IsInView, Meets, plus, times, opposite, from_first, to_last, from_near, to_far, half_spaces}
use Rattle.int_camera.proofs.Places.{from_edge-before, from_edge-inside, from_edge-past}
use Rattle.int_camera.proofs.Vectors.{dot-opposite, dot-plus, dot-times, meets-past_eye}
use Rattle.int_camera.proofs.Multiples.{neg-mul}

some_by : (o : Option ℕ) (n : ℕ) → o ≡ Some n → IsSome o
some_by o n e = rw e refl

none_not : (o : Option ℕ) → o ≡ None → IsSome o → ⊥
none_not o e some = let h : IsSome {T = ℕ} None = rw e at some in absurd (cc h)

-- a place that the picture has, as a distance from its edge
edge_from : (a t : ℤ) (k size : ℕ) → 0 < k → t ≡ a +ℤ pos (size / 2 * k) → IsSome (from_edge (floor a k) size) → (pos 0 ≤ℤ t) × (t <ℤ pos (size * k))
edge_from a (negsuc n) k size h e some = absurd (none_not _ (from_edge-before a (negsuc n) k size h e (omega (arith, ints))) some)
edge_from a (pos n) k size h e some = by_size (cases_lt n (size * k)) where
  by_size : (n < size * k) ⊎ (size * k ≤ n) → (pos 0 ≤ℤ pos n) × (pos n <ℤ pos (size * k))
  by_size (inl lt) = (omega (arith, ints), omega (arith, ints, lt))
  by_size (inr le) = absurd (none_not _ (from_edge-past a (pos n) k size h e (omega (arith, ints)) le) some)

edge_to : (a t : ℤ) (k size : ℕ) → 0 < k → t ≡ a +ℤ pos (size / 2 * k) → pos 0 ≤ℤ t → t <ℤ pos (size * k) → IsSome (from_edge (floor a k) size)
edge_to a (negsuc n) k size h e low high = absurd (omega (arith, ints, low))
edge_to a (pos n) k size h e low high = some_by _ (n / k) (from_edge-inside a (pos n) k size h e low (omega (arith, ints, high)))

-- the two halves of a picture
halves : (size k : ℕ) → size * k ≡ size / 2 * k + (size - size / 2) * k
halves size k =
    let whole : size ≡ size / 2 + (size - size / 2) = omega arith in
    ap (λ (n : ℕ). n * k) whole ∙ omega arith

-- where the picture has a column or row
pub has_place : (a : ℤ) (k size : ℕ) → 0 < k → IsSome (from_edge (floor a k) size) ↔ ((neg_ℤ (pos (size / 2 * k)) ≤ℤ a) × ((pos 1 -ℤ pos ((size - size / 2) * k)) ≤ℤ neg_ℤ a))
has_place a k size h =
    let both = halves size k in (
      (λ (some : IsSome (from_edge (floor a k) size)).
          let t = edge_from a (a +ℤ pos (size / 2 * k)) k size h refl some in
          (omega (arith, ints, t.0), omega (arith, ints, t.1, both))),
      (λ (in_it : (neg_ℤ (pos (size / 2 * k)) ≤ℤ a) × ((pos 1 -ℤ pos ((size - size / 2) * k)) ≤ℤ neg_ℤ a)).
          edge_to a (a +ℤ pos (size / 2 * k)) k size h refl (omega (arith, ints, in_it.0)) (omega (arith, ints, in_it.1, both))),
    )

between_from : (n near far : ℕ) → IsSome (between (pos n) near far) → (near ≤ n) × (n ≤ far)
between_from n near far some = grind (arith, nat_tests)

between_to : (n near far : ℕ) → near ≤ n → n ≤ far → IsSome (between (pos n) near far)
between_to n near far low high = grind (arith, nat_tests)

-- where a depth is between near and far
pub has_depth : (z : ℤ) (unit near far : ℕ) → 0 < unit → IsSome (between (floor z unit) near far) ↔ ((pos (near * unit) ≤ℤ z) × ((pos 1 -ℤ pos ((far + 1) * unit)) ≤ℤ neg_ℤ z))
has_depth (pos n) unit near far h = (
  (λ (some : IsSome (between (pos (n / unit)) near far)).
      let d = between_from (n / unit) near far some in
      let low : near * unit ≤ n = (le-div_iff_mul-le {x = near} h).0 d.0 in
      let high : n < (far + 1) * unit = (div-lt_iff_lt-mul {x = n} h).0 (omega (arith, d.1)) in
      (omega (arith, ints, low), omega (arith, ints, high))),
  (λ (in_it : (pos (near * unit) ≤ℤ pos n) × ((pos 1 -ℤ pos ((far + 1) * unit)) ≤ℤ neg_ℤ (pos n))).
      let low : near ≤ n / unit = (le-div_iff_mul-le {x = near} h).1 (omega (arith, ints, in_it.0)) in
      let high : n / unit < far + 1 = (div-lt_iff_lt-mul {x = n} h).1 (omega (arith, ints, in_it.1)) in
      between_to (n / unit) near far low (omega (arith, high))),
)
has_depth (negsuc n) unit near far h = (
  (λ (some : IsSome (between (negsuc (n / unit)) near far)). absurd (none_not _ refl some)),
  (λ (in_it : (pos (near * unit) ≤ℤ negsuc n) × ((pos 1 -ℤ pos ((far + 1) * unit)) ≤ℤ neg_ℤ (negsuc n))). absurd (omega (arith, ints, in_it.0))),
)

-- a spot has all three parts
has_spot : (column row depth : Option ℕ) → IsSome (spot_of column row depth) ↔ (IsSome column × (IsSome row × IsSome depth))
has_spot (Some column) (Some row) (Some depth) = ((λ _. (refl, (refl, refl))), (λ _. refl))
has_spot (Some column) (Some row) None = ((λ some. absurd (cc some)), (λ all. absurd (cc all.1.1)))
has_spot (Some column) None depth = ((λ some. absurd (cc some)), (λ all. absurd (cc all.1.0)))
has_spot None row depth = ((λ some. absurd (cc some)), (λ all. absurd (cc all.0)))

-- the half-spaces of a parallel camera's columns or rows
has_place-orthographic : (lens : Lens) (v p : Point) (size : ℕ) → 0 < lens.scale → IsSome (from_edge (floor (dot v (away p lens.eye)) lens.scale) size) ↔ (Meets (from_first orthographic lens v size) p × Meets (to_last orthographic lens v size) p)
has_place-orthographic lens v p size h =
    let q : Point = away p lens.eye in
    let here = has_place (dot v q) lens.scale size h in
    let first = meets-past_eye lens.eye v p (neg_ℤ (pos (size / 2 * lens.scale))) in
    let last = meets-past_eye lens.eye (opposite v) p (pos 1 -ℤ pos ((size - size / 2) * lens.scale)) in
    let turned = dot-opposite v q in (
      (λ (some : IsSome (from_edge (floor (dot v q) lens.scale) size)).
          let d = here.0 some in
          (first.1 d.0, last.1 (omega (arith, ints, d.1, turned)))),
      (λ (both : Meets (from_first orthographic lens v size) p × Meets (to_last orthographic lens v size) p).
          let low = first.0 both.0 in
          let high = last.0 both.1 in
          here.1 (low, omega (arith, ints, high, turned))),
    )

-- those of a camera in perspective, for a point ahead of the eye
has_place-perspective : (lens : Lens) (v p : Point) (size n : ℕ) → dot lens.forward (away p lens.eye) ≡ pos (suc n) → IsSome (from_edge (floor (dot v (away p lens.eye) *ℤ pos lens.scale) (suc n)) size) ↔ (Meets (from_first perspective lens v size) p × Meets (to_last perspective lens v size) p)
has_place-perspective lens v p size n ahead =
    let q : Point = away p lens.eye in
    let k : ℤ = pos lens.scale in
    let h : 0 < suc n = omega arith in
    let here = has_place (dot v q *ℤ k) (suc n) size h in
    let low_sum : dot (plus (times k v) (times (pos (size / 2)) lens.forward)) q ≡ k *ℤ dot v q +ℤ pos (size / 2) *ℤ dot lens.forward q = sums k (pos (size / 2)) v lens.forward q in
    let high_sum : dot (plus (times (pos (size - size / 2)) lens.forward) (times (neg_ℤ k) v)) q ≡ pos (size - size / 2) *ℤ dot lens.forward q +ℤ neg_ℤ k *ℤ dot v q = sums (pos (size - size / 2)) (neg_ℤ k) lens.forward v q in
    let low_ahead : pos (size / 2) *ℤ dot lens.forward q ≡ pos (size / 2 * suc n) = ap (λ (z : ℤ). pos (size / 2) *ℤ z) ahead in
    let high_ahead : pos (size - size / 2) *ℤ dot lens.forward q ≡ pos ((size - size / 2) * suc n) = ap (λ (z : ℤ). pos (size - size / 2) *ℤ z) ahead in
    let turned : k *ℤ dot v q ≡ dot v q *ℤ k = *ℤ_comm k (dot v q) in
    let back : neg_ℤ k *ℤ dot v q ≡ neg_ℤ (k *ℤ dot v q) = neg-mul k (dot v q) in
    let first = meets-past_eye lens.eye (plus (times k v) (times (pos (size / 2)) lens.forward)) p (pos 0) in
    let last = meets-past_eye lens.eye (plus (times (pos (size - size / 2)) lens.forward) (times (neg_ℤ k) v)) p (pos 1) in (
      (λ (some : IsSome (from_edge (floor (dot v q *ℤ k) (suc n)) size)).
          let d = here.0 some in
          (first.1 (low_to _ _ _ _ _ low_sum low_ahead turned d.0), last.1 (high_to _ _ _ _ _ _ high_sum high_ahead turned back d.1))),
      (λ (both : Meets (from_first perspective lens v size) p × Meets (to_last perspective lens v size) p).
          here.1 (low_from _ _ _ _ _ low_sum low_ahead turned (first.0 both.0), high_from _ _ _ _ _ _ high_sum high_ahead turned back (last.0 both.1))),
    )
  where
    sums : (k m : ℤ) (v w q : Point) → dot (plus (times k v) (times m w)) q ≡ k *ℤ dot v q +ℤ m *ℤ dot w q
    sums k m v w q = omega (arith, ints, dot-plus (times k v) (times m w) q, dot-times k v q, dot-times m w q)

    low_to : (s ka fz : ℤ) (a : ℤ) (m : ℕ) → s ≡ ka +ℤ fz → fz ≡ pos m → ka ≡ a → neg_ℤ (pos m) ≤ℤ a → pos 0 ≤ℤ s
    low_to s ka fz a m sum ahead turned le = omega (arith, ints)

    low_from : (s ka fz : ℤ) (a : ℤ) (m : ℕ) → s ≡ ka +ℤ fz → fz ≡ pos m → ka ≡ a → pos 0 ≤ℤ s → neg_ℤ (pos m) ≤ℤ a
    low_from s ka fz a m sum ahead turned le = omega (arith, ints)

    high_to : (s fz nka ka : ℤ) (a : ℤ) (m : ℕ) → s ≡ fz +ℤ nka → fz ≡ pos m → ka ≡ a → nka ≡ neg_ℤ ka → (pos 1 -ℤ pos m) ≤ℤ neg_ℤ a → pos 1 ≤ℤ s
    high_to s fz nka ka a m sum ahead turned back le = omega (arith, ints)

    high_from : (s fz nka ka : ℤ) (a : ℤ) (m : ℕ) → s ≡ fz +ℤ nka → fz ≡ pos m → ka ≡ a → nka ≡ neg_ℤ ka → pos 1 ≤ℤ s → (pos 1 -ℤ pos m) ≤ℤ neg_ℤ a
    high_from s fz nka ka a m sum ahead turned back le = omega (arith, ints)

-- the half-spaces of the depths
has_depth-half_spaces : (lens : Lens) (p : Point) → 0 < lens.unit → IsSome (between (floor (dot lens.forward (away p lens.eye)) lens.unit) lens.near lens.far) ↔ (Meets (from_near lens) p × Meets (to_far lens) p)
has_depth-half_spaces lens p h =
    let q : Point = away p lens.eye in
    let here = has_depth (dot lens.forward q) lens.unit lens.near lens.far h in
    let near = meets-past_eye lens.eye lens.forward p (pos (lens.near * lens.unit)) in
    let far = meets-past_eye lens.eye (opposite lens.forward) p (pos 1 -ℤ pos ((lens.far + 1) * lens.unit)) in
    let turned = dot-opposite lens.forward q in (
      (λ (some : IsSome (between (floor (dot lens.forward q) lens.unit) lens.near lens.far)).
          let d = here.0 some in
          (near.1 d.0, far.1 (omega (arith, ints, d.1, turned)))),
      (λ (both : Meets (from_near lens) p × Meets (to_far lens) p).
          let low = near.0 both.0 in
          let high = far.0 both.1 in
          here.1 (low, omega (arith, ints, high, turned))),
    )

-- what holds of each of six
pub all_six : (P : HalfSpace → Type 0) (a b c d e f : HalfSpace) → All P (a ∷ b ∷ c ∷ d ∷ e ∷ f ∷ []) ↔ ((P a × P b) × ((P c × P d) × (P e × P f)))
all_six P a b c d e f = (
  (λ (all : All P (a ∷ b ∷ c ∷ d ∷ e ∷ f ∷ [])).
      ((all 0 a (omega arith), all 1 a (omega arith)), ((all 2 a (omega arith), all 3 a (omega arith)), (all 4 a (omega arith), all 5 a (omega arith))))),
  (λ (each : (P a × P b) × ((P c × P d) × (P e × P f))).
      All-cons P a (b ∷ c ∷ d ∷ e ∷ f ∷ []) each.0.0 (All-cons P b (c ∷ d ∷ e ∷ f ∷ []) each.0.1 (All-cons P c (d ∷ e ∷ f ∷ []) each.1.0.0 (All-cons P d (e ∷ f ∷ []) each.1.0.1 (All-cons P e (f ∷ []) each.1.1.0 (All-cons P f [] each.1.1.1 (All-nil P))))))),
)

-- three facts by three others
three_by : {A B C D E F : Type 0} → A ↔ D → B ↔ E → C ↔ F → (A × (B × C)) ↔ (D × (E × F))
three_by {A} {B} {C} {D} {E} {F} a b c =
    ((λ (h : A × (B × C)). (a.0 h.0, (b.0 h.1.0, c.0 h.1.1))), (λ (h : D × (E × F)). (a.1 h.0, (b.1 h.1.0, c.1 h.1.1))))

-- two steps in a row
by_turns : {A B C : Type 0} → A ↔ B → B ↔ C → A ↔ C
by_turns {A} {B} {C} f g = ((λ (a : A). g.0 (f.0 a)), (λ (c : C). f.1 (g.1 c)))

-- a point lies in all six, two by two
abbrev MeetsSix : Lens → Projection → Point → Type 0
MeetsSix lens kind p =
    (Meets (from_first kind lens lens.right lens.width) p × Meets (to_last kind lens lens.right lens.width) p)
    × ((Meets (from_first kind lens lens.down lens.height) p × Meets (to_last kind lens lens.down lens.height) p)
    × (Meets (from_near lens) p × Meets (to_far lens) p))

-- a point that is not ahead of the eye does not reach the least depth
not_ahead : (lens : Lens) (p : Point) → 0 < lens.unit → 0 < lens.near → dot lens.forward (away p lens.eye) ≤ℤ pos 0 → Meets (from_near lens) p → ⊥
not_ahead lens p unit near behind meets =
    let least : 1 * 1 ≤ lens.near * lens.unit = mul-le-mul near unit in
    let past = (meets-past_eye lens.eye lens.forward p (pos (lens.near * lens.unit))).0 meets in
    omega (arith, ints, least, past, behind)

-- a perspective spot is there where the six are met
perspective_spot-six : (lens : Lens) (p : Point) (ahead : ℤ) → dot lens.forward (away p lens.eye) ≡ ahead → 0 < lens.unit → 0 < lens.near → IsSome (perspective_spot lens (dot lens.right (away p lens.eye)) (dot lens.down (away p lens.eye)) ahead) ↔ MeetsSix lens perspective p
perspective_spot-six lens p (pos zero) e unit near =
    ((λ some. absurd (cc some)), (λ (six : MeetsSix lens perspective p). absurd (not_ahead lens p unit near (omega (arith, ints, e)) six.1.1.0)))
perspective_spot-six lens p (pos (suc n)) e unit near =
    let depth = subst (λ (z : ℤ). IsSome (between (floor z lens.unit) lens.near lens.far) ↔ (Meets (from_near lens) p × Meets (to_far lens) p)) e (has_depth-half_spaces lens p unit) in
    by_turns (has_spot _ _ _) (three_by (has_place-perspective lens lens.right p lens.width n e) (has_place-perspective lens lens.down p lens.height n e) depth)
perspective_spot-six lens p (negsuc n) e unit near =
    ((λ some. absurd (cc some)), (λ (six : MeetsSix lens perspective p). absurd (not_ahead lens p unit near (omega (arith, ints, e)) six.1.1.0)))

-- a spot by its distances is there where the six are met
spot_by-six : (kind : Projection) (lens : Lens) (p : Point) → 0 < lens.scale → 0 < lens.unit → (near_range kind).0 ≤ℤ pos lens.near → IsSome (spot_by kind lens (dot lens.right (away p lens.eye)) (dot lens.down (away p lens.eye)) (dot lens.forward (away p lens.eye))) ↔ MeetsSix lens kind p
spot_by-six orthographic lens p scale unit near =
    by_turns (has_spot _ _ _) (three_by (has_place-orthographic lens lens.right p lens.width scale) (has_place-orthographic lens lens.down p lens.height scale) (has_depth-half_spaces lens p unit))
spot_by-six perspective lens p scale unit near =
    perspective_spot-six lens p (dot lens.forward (away p lens.eye)) refl unit (omega (arith, ints, near))

-- a point is in view exactly where it lies in each of the six half-spaces
pub in_view-half_spaces : (lens : Lens) → IsCamera lens → (p : Point) → IsInView lens p ↔ All (λ (h : HalfSpace). Meets h p) (half_spaces lens)
unfolding spot
in_view-half_spaces lens kept p =
    let six = all_six (λ (h : HalfSpace). Meets h p) (from_first lens.kind lens lens.right lens.width) (to_last lens.kind lens lens.right lens.width) (from_first lens.kind lens lens.down lens.height) (to_last lens.kind lens lens.down lens.height) (from_near lens) (to_far lens) in
    by_turns (spot_by-six lens.kind lens p kept.scale.0 kept.unit.0 kept.near) (six.1, six.0)
