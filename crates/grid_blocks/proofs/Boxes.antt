-- The least box of some points, and of one point more.
use Rattle.std.proofs.Common.{◌≡◌, ℕ, ℤ, ◌+◌, ◌<◌, ◌≤◌, ◌&&◌, true, List, [], ◌∷◌, ◌++◌, length, get_or, take, map, inl, inr, refl, sym, ◌∙◌, ap, subst, arith}
use Rattle.std.specs.Prelude.{◌⊎◌, All, IsTrue}
use Rattle.std.specs.Int.{int_min, int_max}
use Rattle.std.specs.List.{Any, range_with_len}
use Rattle.std.proofs.lemmas.Int.{ints}
use Rattle.std.proofs.lemmas.Bool.{and_parts, and_from}
use Rattle.std.proofs.lemmas.List.{get_or_append_left, length-append, take_more}
use Rattle.std.proofs.lemmas.List.FromFn.{map-range_with_len_more, length-map-range_with_len, get_or-map-range_with_len}
use Rattle.std.proofs.lemmas.List.Elements.{All-push, All-weaker, All-cons, All-nil, All-append, Contains-append_right}
use Rattle.std.proofs.lemmas.List.Quantifiers.{Any-push}
use lib.Signed.{le_z}
use Rattle.view_base.specs.declared.place.Point.{Point}
use Rattle.view_base.specs.declared.place.Box3.{Box3}
use Rattle.view_meaning.specs.Survey.{point_of}
use Rattle.view_meaning.specs.Classes.{in_box}
use Rattle.grid_blocks.specs.LeastBox.{IsLeastBox}
use Rattle.grid_blocks.proofs.Filling.{made-halves}

-- what one of some later items has, one of all has
Any-append_right : {X : Type 0} (P : X → Type 0) (xs ys : List X) → Any P ys → Any P (xs ++ ys)
Any-append_right P xs ys some =
    let inside = Contains-append_right xs ys some.1 (some.0, some.2, some.3) in
    (inside.0, some.1, inside.1, inside.2, some.4)

-- a point lies in a box, coordinate by coordinate
pub record IsInside (area : Box3) (p : Point) : Type 0 where
  pub above_x : le_z area.min.x p.x ≡ true
  pub below_x : le_z p.x area.max.x ≡ true
  pub above_y : le_z area.min.y p.y ≡ true
  pub below_y : le_z p.y area.max.y ≡ true
  pub above_z : le_z area.min.z p.z ≡ true
  pub below_z : le_z p.z area.max.z ≡ true

pub inside-from_box : (area : Box3) (p : Point) → IsTrue (in_box area p) → IsInside area p
inside-from_box area p is =
    let xz = and_parts (le_z area.min.x p.x && le_z p.x area.max.x && le_z area.min.y p.y && le_z p.y area.max.y && le_z area.min.z p.z) (le_z p.z area.max.z) is in
    let yz = and_parts (le_z area.min.x p.x && le_z p.x area.max.x && le_z area.min.y p.y && le_z p.y area.max.y) (le_z area.min.z p.z) xz.0 in
    let xy = and_parts (le_z area.min.x p.x && le_z p.x area.max.x && le_z area.min.y p.y) (le_z p.y area.max.y) yz.0 in
    let yx = and_parts (le_z area.min.x p.x && le_z p.x area.max.x) (le_z area.min.y p.y) xy.0 in
    let xx = and_parts (le_z area.min.x p.x) (le_z p.x area.max.x) yx.0 in
    record { above_x = xx.0; below_x = xx.1; above_y = yx.1; below_y = xy.1; above_z = yz.1; below_z = xz.1 }

pub in_box-from_inside : (area : Box3) (p : Point) → IsInside area p → IsTrue (in_box area p)
in_box-from_inside area p h =
    and_from _ _ (and_from _ _ (and_from _ _ (and_from _ _ (and_from _ _ h.above_x h.below_x) h.above_y) h.below_y) h.above_z) h.below_z

lower_kept : (low p at : ℤ) → le_z low at ≡ true → le_z (int_min low p) at ≡ true
lower_kept low p at is = grind (arith, ints)

upper_kept : (high p at : ℤ) → le_z at high ≡ true → le_z at (int_max high p) ≡ true
upper_kept high p at is = grind (arith, ints)

lower_new : (low p : ℤ) → le_z (int_min low p) p ≡ true
lower_new low p = grind (arith, ints)

upper_new : (high p : ℤ) → le_z p (int_max high p) ≡ true
upper_new high p = grind (arith, ints)

pub le_z-same : (at : ℤ) → le_z at at ≡ true
le_z-same at = grind (arith, ints)

-- the corners of the box that is widened to hold a point
pub record IsWidened (area : Box3) (p : Point) (wide : Box3) : Type 0 where
  pub min_x : wide.min.x ≡ int_min area.min.x p.x
  pub min_y : wide.min.y ≡ int_min area.min.y p.y
  pub min_z : wide.min.z ≡ int_min area.min.z p.z
  pub max_x : wide.max.x ≡ int_max area.max.x p.x
  pub max_y : wide.max.y ≡ int_max area.max.y p.y
  pub max_z : wide.max.z ≡ int_max area.max.z p.z

below : (a b at : ℤ) → a ≡ b → le_z b at ≡ true → le_z a at ≡ true
below a b at same is = ap (λ (z : ℤ). le_z z at) same ∙ is

above : (a b at : ℤ) → a ≡ b → le_z at b ≡ true → le_z at a ≡ true
above a b at same is = ap (λ (z : ℤ). le_z at z) same ∙ is

inside_wider : (area wide : Box3) (p q : Point) → IsWidened area p wide → IsInside area q → IsInside wide q
inside_wider area wide p q w h = record {
  above_x = below wide.min.x _ q.x w.min_x (lower_kept area.min.x p.x q.x h.above_x);
  below_x = above wide.max.x _ q.x w.max_x (upper_kept area.max.x p.x q.x h.below_x);
  above_y = below wide.min.y _ q.y w.min_y (lower_kept area.min.y p.y q.y h.above_y);
  below_y = above wide.max.y _ q.y w.max_y (upper_kept area.max.y p.y q.y h.below_y);
  above_z = below wide.min.z _ q.z w.min_z (lower_kept area.min.z p.z q.z h.above_z);
  below_z = above wide.max.z _ q.z w.max_z (upper_kept area.max.z p.z q.z h.below_z);
}

inside_new : (area wide : Box3) (p : Point) → IsWidened area p wide → IsInside wide p
inside_new area wide p w = record {
  above_x = below wide.min.x _ p.x w.min_x (lower_new area.min.x p.x);
  below_x = above wide.max.x _ p.x w.max_x (upper_new area.max.x p.x);
  above_y = below wide.min.y _ p.y w.min_y (lower_new area.min.y p.y);
  below_y = above wide.max.y _ p.y w.max_y (upper_new area.max.y p.y);
  above_z = below wide.min.z _ p.z w.min_z (lower_new area.min.z p.z);
  below_z = above wide.max.z _ p.z w.max_z (upper_new area.max.z p.z);
}

pub any-append_left : {A : Type 0} (P : A → Type 0) (xs ys : List A) → Any P xs → Any P (xs ++ ys)
any-append_left P xs ys h =
    (h.0, h.1, (let size : length (xs ++ ys) ≡ length xs + length ys = length-append xs ys in let lt : h.0 < length xs = h.2 in omega (arith, size, lt)), get_or_append_left xs ys h.1 h.0 h.2 ∙ h.3, h.4)

-- a face is met by a point that met it before, or by the new one
met_more : (f : Point → ℤ) (points : List Point) (p : Point) (old new : ℤ) → (new ≡ old) ⊎ (new ≡ f p) → Any (λ q. f q ≡ old) points → Any (λ q. f q ≡ new) (points ++ p ∷ [])
met_more f points p old new (inl same) met = any-append_left (λ q. f q ≡ new) points (p ∷ []) (met.0, met.1, met.2, met.3, met.4 ∙ sym same)
met_more f points p old new (inr is) met = Any-push (λ q. f q ≡ new) points p (sym is)

min_cases : (new old p : ℤ) → new ≡ int_min old p → (new ≡ old) ⊎ (new ≡ p)
min_cases new old p is = grind (arith, ints)

max_cases : (new old p : ℤ) → new ≡ int_max old p → (new ≡ old) ⊎ (new ≡ p)
max_cases new old p is = grind (arith, ints)

-- the corners of the least box that holds two boxes
pub record IsJoined (a b wide : Box3) : Type 0 where
  pub min_x : wide.min.x ≡ int_min a.min.x b.min.x
  pub min_y : wide.min.y ≡ int_min a.min.y b.min.y
  pub min_z : wide.min.z ≡ int_min a.min.z b.min.z
  pub max_x : wide.max.x ≡ int_max a.max.x b.max.x
  pub max_y : wide.max.y ≡ int_max a.max.y b.max.y
  pub max_z : wide.max.z ≡ int_max a.max.z b.max.z

min_swap : (a b : ℤ) → int_min a b ≡ int_min b a
min_swap a b = grind (arith, ints)

max_swap : (a b : ℤ) → int_max a b ≡ int_max b a
max_swap a b = grind (arith, ints)

joined_swap : (a b wide : Box3) → IsJoined a b wide → IsJoined b a wide
joined_swap a b wide j = record {
  min_x = j.min_x ∙ min_swap a.min.x b.min.x;
  min_y = j.min_y ∙ min_swap a.min.y b.min.y;
  min_z = j.min_z ∙ min_swap a.min.z b.min.z;
  max_x = j.max_x ∙ max_swap a.max.x b.max.x;
  max_y = j.max_y ∙ max_swap a.max.y b.max.y;
  max_z = j.max_z ∙ max_swap a.max.z b.max.z;
}

inside_joined : (a b wide : Box3) (q : Point) → IsJoined a b wide → IsInside a q → IsInside wide q
inside_joined a b wide q j h = record {
  above_x = below wide.min.x _ q.x j.min_x (lower_kept a.min.x b.min.x q.x h.above_x);
  below_x = above wide.max.x _ q.x j.max_x (upper_kept a.max.x b.max.x q.x h.below_x);
  above_y = below wide.min.y _ q.y j.min_y (lower_kept a.min.y b.min.y q.y h.above_y);
  below_y = above wide.max.y _ q.y j.max_y (upper_kept a.max.y b.max.y q.y h.below_y);
  above_z = below wide.min.z _ q.z j.min_z (lower_kept a.min.z b.min.z q.z h.above_z);
  below_z = above wide.max.z _ q.z j.max_z (upper_kept a.max.z b.max.z q.z h.below_z);
}

all_joined : (points : List Point) (a b wide : Box3) → IsJoined a b wide → All (λ q. IsTrue (in_box a q)) points → All (λ q. IsTrue (in_box wide q)) points
all_joined points a b wide j h =
    All-weaker (λ q. IsTrue (in_box a q)) (λ q. IsTrue (in_box wide q)) (λ q is. in_box-from_inside wide q (inside_joined a b wide q j (inside-from_box a q is))) points h

-- a face is met by a point of the one list or of the other
met_either : (f : Point → ℤ) (xs ys : List Point) (x y new : ℤ) → (new ≡ x) ⊎ (new ≡ y) → Any (λ q. f q ≡ x) xs → Any (λ q. f q ≡ y) ys → Any (λ q. f q ≡ new) (xs ++ ys)
met_either f xs ys x y new (inl same) met other = any-append_left (λ q. f q ≡ new) xs ys (met.0, met.1, met.2, met.3, met.4 ∙ sym same)
met_either f xs ys x y new (inr same) met other = Any-append_right (λ q. f q ≡ new) xs ys (other.0, other.1, other.2, other.3, other.4 ∙ sym same)

-- the least box of two lists of points, one after the other
pub least_box-append : (xs ys : List Point) (a b wide : Box3) → IsJoined a b wide → IsLeastBox xs a → IsLeastBox ys b → IsLeastBox (xs ++ ys) wide
least_box-append xs ys a b wide j h k = record {
  within = All-append (λ q. IsTrue (in_box wide q)) xs ys (all_joined xs a b wide j h.within) (all_joined ys b a wide (joined_swap a b wide j) k.within);
  min_x = met_either (λ q. q.x) xs ys a.min.x b.min.x wide.min.x (min_cases _ _ _ j.min_x) h.min_x k.min_x;
  min_y = met_either (λ q. q.y) xs ys a.min.y b.min.y wide.min.y (min_cases _ _ _ j.min_y) h.min_y k.min_y;
  min_z = met_either (λ q. q.z) xs ys a.min.z b.min.z wide.min.z (min_cases _ _ _ j.min_z) h.min_z k.min_z;
  max_x = met_either (λ q. q.x) xs ys a.max.x b.max.x wide.max.x (max_cases _ _ _ j.max_x) h.max_x k.max_x;
  max_y = met_either (λ q. q.y) xs ys a.max.y b.max.y wide.max.y (max_cases _ _ _ j.max_y) h.max_y k.max_y;
  max_z = met_either (λ q. q.z) xs ys a.max.z b.max.z wide.max.z (max_cases _ _ _ j.max_z) h.max_z k.max_z;
}

-- the least box of records in two parts
pub least_box-halves : (b : List ℕ) (first mid half rest n : ℕ) (wide : Box3) → mid ≡ first + half → half + rest ≡ n
    → IsLeastBox (map (point_of b) (range_with_len first half) ++ map (point_of b) (range_with_len mid rest)) wide → IsLeastBox (map (point_of b) (range_with_len first n)) wide
least_box-halves b first mid half rest n wide there whole h =
    subst (λ (l : List Point). IsLeastBox l wide) (made-halves (point_of b) first mid half rest n _ _ there whole refl refl) h

-- the least box of some points and one more
pub least_box_more : (points : List Point) (area wide : Box3) (p : Point) → IsWidened area p wide → IsLeastBox points area → IsLeastBox (points ++ p ∷ []) wide
least_box_more points area wide p w h = record {
  within = All-push (λ q. IsTrue (in_box wide q)) points p
      (All-weaker (λ q. IsTrue (in_box area q)) (λ q. IsTrue (in_box wide q)) (λ q is. in_box-from_inside wide q (inside_wider area wide p q w (inside-from_box area q is))) points h.within)
      (in_box-from_inside wide p (inside_new area wide p w));
  min_x = met_more (λ q. q.x) points p area.min.x wide.min.x (min_cases _ _ _ w.min_x) h.min_x;
  min_y = met_more (λ q. q.y) points p area.min.y wide.min.y (min_cases _ _ _ w.min_y) h.min_y;
  min_z = met_more (λ q. q.z) points p area.min.z wide.min.z (min_cases _ _ _ w.min_z) h.min_z;
  max_x = met_more (λ q. q.x) points p area.max.x wide.max.x (max_cases _ _ _ w.max_x) h.max_x;
  max_y = met_more (λ q. q.y) points p area.max.y wide.max.y (max_cases _ _ _ w.max_y) h.max_y;
  max_z = met_more (λ q. q.z) points p area.max.z wide.max.z (max_cases _ _ _ w.max_z) h.max_z;
}

alone : (P : Point → Type 0) (p : Point) → P p → Any P (p ∷ [])
alone P p is = (0, p, omega arith, refl, is)

-- the least box of one point
pub least_box_one : (p low high : Point) → low ≡ p → high ≡ p → IsLeastBox (p ∷ []) (record { min = low; max = high })
least_box_one p low high at_low at_high =
    subst (λ (l : Point). IsLeastBox (p ∷ []) (record { min = l; max = high })) (sym at_low)
    (subst (λ (h : Point). IsLeastBox (p ∷ []) (record { min = p; max = h })) (sym at_high) (record {
      within = All-cons (λ q. IsTrue (in_box (record { min = p; max = p }) q)) p [] (in_box-from_inside (record { min = p; max = p }) p (record {
        above_x = le_z-same p.x;
        below_x = le_z-same p.x;
        above_y = le_z-same p.y;
        below_y = le_z-same p.y;
        above_z = le_z-same p.z;
        below_z = le_z-same p.z;
      })) (All-nil _);
      min_x = alone (λ q. q.x ≡ p.x) p refl;
      min_y = alone (λ q. q.y ≡ p.y) p refl;
      min_z = alone (λ q. q.z ≡ p.z) p refl;
      max_x = alone (λ q. q.x ≡ p.x) p refl;
      max_y = alone (λ q. q.y ≡ p.y) p refl;
      max_z = alone (λ q. q.z ≡ p.z) p refl;
    }))

-- the least box of the first of some points
pub least_box_first : (points : List Point) (d : Point) → 1 ≤ length points → IsLeastBox (take 1 points) (record { min = get_or points 0 d; max = get_or points 0 d })
least_box_first points d some =
    subst (λ (l : List Point). IsLeastBox l (record { min = get_or points 0 d; max = get_or points 0 d })) (sym (take_more points 0 d some))
    (least_box_one (get_or points 0 d) (get_or points 0 d) (get_or points 0 d) refl refl)

-- the least box of one record
pub least_box_begins : (b : List ℕ) (first n : ℕ) (p : Point) → n ≡ 1 → p ≡ point_of b first → IsLeastBox (map (point_of b) (range_with_len first n)) (record { min = p; max = p })
least_box_begins b first n p one is =
    subst (λ (n : ℕ). IsLeastBox (map (point_of b) (range_with_len first n)) (record { min = p; max = p })) (sym one) (least_box_one (point_of b first) p p is is)

-- the points of records from a first on, with one record more
pub points_more : (b : List ℕ) (first i n m : ℕ) (p : Point) → first + n ≡ i → m ≡ n + 1 → p ≡ point_of b i → map (point_of b) (range_with_len first m) ≡ map (point_of b) (range_with_len first n) ++ p ∷ []
points_more b first i n m p here next is =
    ap (λ (k : ℕ). map (point_of b) (range_with_len first k)) next ∙ map-range_with_len_more (point_of b) first n i here
    ∙ ap (λ (q : Point). map (point_of b) (range_with_len first n) ++ q ∷ []) (sym is)

-- each record lies in the least box of the first n
pub inside_least : (b : List ℕ) (n i : ℕ) (area : Box3) (p : Point) → IsLeastBox (map (point_of b) (range_with_len 0 n)) area → i < n → p ≡ point_of b i → IsTrue (in_box area p)
inside_least b n i area p h lt is =
    let long : length (map (point_of b) (range_with_len 0 n)) ≡ n = length-map-range_with_len (point_of b) 0 n in
    let here : get_or (map (point_of b) (range_with_len 0 n)) i p ≡ p = get_or-map-range_with_len (point_of b) 0 n i i p lt (omega arith) ∙ sym is in
    subst (λ (q : Point). IsTrue (in_box area q)) here (h.within i p (omega (arith, lt, long)))
