-- Boxes that hold points.
use Rattle.std.proofs.Common.{◌≡◌, ◌&&◌, ℤ, w32, to_z, of_z, Bool, true, false, refl, sym, ◌∙◌, ap, arith}
use Rattle.std.proofs.lemmas.Int.{ints, to_z-of_z}
use Rattle.view_base.specs.declared.place.Point.{Point}
use Rattle.view_base.specs.declared.place.Box3.{Box3}
use Rattle.view_meaning.specs.Classes.{in_box}
use Rattle.class_pages.specs.Boxes.{covers, meets}
use lib.Signed.{le_z}
use mir.Val.{SFits}

-- a point lies in a box
record IsIn (a : Box3) (p : Point) : Type 0 where
  pub low_x : le_z a.min.x p.x ≡ true
  pub high_x : le_z p.x a.max.x ≡ true
  pub low_y : le_z a.min.y p.y ≡ true
  pub high_y : le_z p.y a.max.y ≡ true
  pub low_z : le_z a.min.z p.z ≡ true
  pub high_z : le_z p.z a.max.z ≡ true

left : (s t : Bool) → (s && t) ≡ true → s ≡ true
left true t is = refl
left false t is = is

right : (s t : Bool) → (s && t) ≡ true → t ≡ true
right true t is = is
right false t is = absurd (cc is)

both : (s t : Bool) → s ≡ true → t ≡ true → (s && t) ≡ true
both s t one two = ap (λ (k : Bool). k && t) one ∙ two

is_in : (a : Box3) (p : Point) → in_box a p ≡ true → IsIn a p
is_in a p is =
    let five = left _ (le_z p.z a.max.z) is in
    let four = left _ (le_z a.min.z p.z) five in
    let three = left _ (le_z p.y a.max.y) four in
    let two = left _ (le_z a.min.y p.y) three in
    record {
      low_x = left (le_z a.min.x p.x) (le_z p.x a.max.x) two;
      high_x = right (le_z a.min.x p.x) (le_z p.x a.max.x) two;
      low_y = right _ (le_z a.min.y p.y) three;
      high_y = right _ (le_z p.y a.max.y) four;
      low_z = right _ (le_z a.min.z p.z) five;
      high_z = right _ (le_z p.z a.max.z) is;
    }

in_it : (a : Box3) (p : Point) → IsIn a p → in_box a p ≡ true
in_it a p h = both _ _ (both _ _ (both _ _ (both _ _ (both _ _ h.low_x h.high_x) h.low_y) h.high_y) h.low_z) h.high_z

through : (x y z : ℤ) → le_z x y ≡ true → le_z y z ≡ true → le_z x z ≡ true
through x y z one two = grind (arith, ints)

-- a point that lies in two boxes is common to them
pub meets_common : (a b : Box3) (p : Point) → in_box a p ≡ true → in_box b p ≡ true → meets a b ≡ true
meets_common a b p one two =
    let s = is_in a p one in
    let t = is_in b p two in
    both _ _ (both _ _ (both _ _ (both _ _ (both _ _ (through a.min.x p.x b.max.x s.low_x t.high_x) (through b.min.x p.x a.max.x t.low_x s.high_x))
    (through a.min.y p.y b.max.y s.low_y t.high_y)) (through b.min.y p.y a.max.y t.low_y s.high_y))
    (through a.min.z p.z b.max.z s.low_z t.high_z)) (through b.min.z p.z a.max.z t.low_z s.high_z)

-- a point of one of two boxes that do not meet is not in the other
pub apart : (a b : Box3) (p : Point) → meets a b ≡ false → in_box a p ≡ true → in_box b p ≡ false
apart a b p far here = by_case (in_box b p) refl
  where
    by_case : (t : Bool) → in_box b p ≡ t → in_box b p ≡ false
    by_case true is = no_case (sym (meets_common a b p here is) ∙ far)
      where
        no_case : true ≡ false → in_box b p ≡ false
        no_case e = absurd (cc e)
    by_case false is = is

-- a point of a box that an area covers lies in the area
pub covered : (a b : Box3) (p : Point) → covers a b ≡ true → in_box b p ≡ true → in_box a p ≡ true
covered a b p whole here =
    let s = is_in b p here in
    let five = left _ (le_z b.max.z a.max.z) whole in
    let four = left _ (le_z a.min.z b.min.z) five in
    let three = left _ (le_z b.max.y a.max.y) four in
    let two = left _ (le_z a.min.y b.min.y) three in
    in_it a p (record {
      low_x = through a.min.x b.min.x p.x (left (le_z a.min.x b.min.x) (le_z b.max.x a.max.x) two) s.low_x;
      high_x = through p.x b.max.x a.max.x s.high_x (right (le_z a.min.x b.min.x) (le_z b.max.x a.max.x) two);
      low_y = through a.min.y b.min.y p.y (right _ (le_z a.min.y b.min.y) three) s.low_y;
      high_y = through p.y b.max.y a.max.y s.high_y (right _ (le_z b.max.y a.max.y) four);
      low_z = through a.min.z b.min.z p.z (right _ (le_z a.min.z b.min.z) five) s.low_z;
      high_z = through p.z b.max.z a.max.z s.high_z (right _ (le_z b.max.z a.max.z) whole);
    })

-- the one point is in the box of it
pub alone : (p : Point) → in_box (record { min = p; max = p }) p ≡ true
alone p = let same : (x : ℤ) → le_z x x ≡ true = λ x. grind (arith, ints) in
    in_it (record { min = p; max = p }) p (record { low_x = same p.x; high_x = same p.x; low_y = same p.y; high_y = same p.y; low_z = same p.z; high_z = same p.z })

-- the least corner of a box that has a point lies in it
pub corner_in : (a : Box3) (p : Point) → in_box a p ≡ true → in_box a a.min ≡ true
corner_in a p is =
    let s = is_in a p is in
    let same : (x : ℤ) → le_z x x ≡ true = λ x. grind (arith, ints) in
    in_it a a.min (record {
      low_x = same a.min.x;
      high_x = through a.min.x p.x a.max.x s.low_x s.high_x;
      low_y = same a.min.y;
      high_y = through a.min.y p.y a.max.y s.low_y s.high_y;
      low_z = same a.min.z;
      high_z = through a.min.z p.z a.max.z s.low_z s.high_z;
    })

-- coordinates compare as the numbers that they are read as
pub same_test : (p q : ℤ) → SFits w32 p → SFits w32 q → le_z (to_z w32 (of_z w32 p)) (to_z w32 (of_z w32 q)) ≡ le_z p q
same_test p q one two = ap (λ (z : ℤ). le_z z (to_z w32 (of_z w32 q))) (to_z-of_z w32 p one) ∙ ap (le_z p) (to_z-of_z w32 q two)
