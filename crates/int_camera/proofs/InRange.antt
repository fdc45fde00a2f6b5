-- What is known of a camera's numbers where none is out of its range.
use Rattle.std.proofs.Common.{◌≡◌, ℕ, ◌+◌, ◌-◌, ◌*◌, ◌^◌, ◌<◌, ◌≤◌, false, ℤ, pos, negsuc, neg_ℤ, ◌*ℤ◌, ◌≤ℤ◌, List, length, get_or, Option, Some, None, T, Fits, FitsSigned, nat_abs, refl, sym, ◌∙◌, arith}
use Rattle.std.specs.List.{find, range_with_len}
use Rattle.std.specs.Option.{option_map}
use Rattle.std.proofs.lemmas.Int.{ints, to_z-of_z}
use lib.Signed.{non_neg}
use mir.Val.{to_z, of_z}
use mir.Syntax.{w32, w64, w128}
use Rattle.view_base.specs.declared.place.Point.{Point}
use Rattle.view_meaning.specs.Camera.{Projection, orthographic, perspective}
use Rattle.int_camera.specs.declared.numbers.CameraLimit.{CameraLimit}
use Rattle.int_camera.specs.Limits.{first_outside, is_outside, number, point_from, scale_range, near_range, ranges}
use Rattle.int_camera.specs.Kept.{IsCoordinate, IsVector}
use Rattle.int_camera.proofs.Limits.{is_outside-at, is_outside-pixels, none_passes, within}

-- a search that maps what it finds
none_found : (f : ℕ → CameraLimit) (o : Option ℕ) → option_map f o ≡ None → o ≡ None
none_found f None e = refl
none_found f (Some x) e = absurd (let h : Some (f x) ≡ None = e in cc)

-- no place is out of its range
nowhere_outside : (kind : Projection) (n : List ℤ) → first_outside kind n ≡ None → (j : ℕ) → j < 19 → is_outside kind n (1 + j) ≡ false
unfolding first_outside
nowhere_outside kind n none j lt =
    none_passes (is_outside kind n) 1 19 (none_found _ (find (is_outside kind n) (range_with_len 1 19)) none) j lt

-- the range of one of the eighteen
pub ranged : (kind : Projection) (n : List ℤ) → length n ≡ 18 → first_outside kind n ≡ None → (i : ℕ) → i < 18 → ((get_or (ranges kind (number n 17)) i (pos 0, pos 0)).0 ≤ℤ get_or n i (pos 0)) × (get_or n i (pos 0) ≤ℤ (get_or (ranges kind (number n 17)) i (pos 0, pos 0)).1)
ranged kind n len none i lt =
    within (get_or (ranges kind (number n 17)) i (pos 0, pos 0)) (get_or n i (pos 0)) (sym (is_outside-at kind n i len lt) ∙ nowhere_outside kind n none i (omega arith))

-- no scale is above that of an orthographic camera
scale_range-within : (kind : Projection) (z : ℤ) → ((scale_range kind).0 ≤ℤ z) × (z ≤ℤ (scale_range kind).1) → (pos 1 ≤ℤ z) × (z ≤ℤ pos (2 ^ 40))
scale_range-within orthographic z h = h
scale_range-within perspective z h = (h.0, omega (arith, ints, h.1))

-- no least depth is below zero
near_range-within : (kind : Projection) (z : ℤ) → ((near_range kind).0 ≤ℤ z) × (z ≤ℤ (near_range kind).1) → (pos 0 ≤ℤ z) × (z ≤ℤ pos (2 ^ 32 - 2))
near_range-within orthographic z h = h
near_range-within perspective z h = (omega (arith, ints, h.0), h.1)

-- the numbers of a camera in their ranges
pub record InRange (kind : Projection) (n : List ℤ) : Type 0 where
  pub width : (pos 1 ≤ℤ number n 1) × (number n 1 ≤ℤ pos 4096)
  pub height : (pos 1 ≤ℤ number n 2) × (number n 2 ≤ℤ pos 4096)
  pub eye_x : (neg_ℤ (pos 2147483648) ≤ℤ number n 3) × (number n 3 ≤ℤ pos 2147483647)
  pub eye_y : (neg_ℤ (pos 2147483648) ≤ℤ number n 4) × (number n 4 ≤ℤ pos 2147483647)
  pub eye_z : (neg_ℤ (pos 2147483648) ≤ℤ number n 5) × (number n 5 ≤ℤ pos 2147483647)
  pub right_x : (neg_ℤ (pos 32768) ≤ℤ number n 6) × (number n 6 ≤ℤ pos 32767)
  pub right_y : (neg_ℤ (pos 32768) ≤ℤ number n 7) × (number n 7 ≤ℤ pos 32767)
  pub right_z : (neg_ℤ (pos 32768) ≤ℤ number n 8) × (number n 8 ≤ℤ pos 32767)
  pub down_x : (neg_ℤ (pos 32768) ≤ℤ number n 9) × (number n 9 ≤ℤ pos 32767)
  pub down_y : (neg_ℤ (pos 32768) ≤ℤ number n 10) × (number n 10 ≤ℤ pos 32767)
  pub down_z : (neg_ℤ (pos 32768) ≤ℤ number n 11) × (number n 11 ≤ℤ pos 32767)
  pub forward_x : (neg_ℤ (pos 32768) ≤ℤ number n 12) × (number n 12 ≤ℤ pos 32767)
  pub forward_y : (neg_ℤ (pos 32768) ≤ℤ number n 13) × (number n 13 ≤ℤ pos 32767)
  pub forward_z : (neg_ℤ (pos 32768) ≤ℤ number n 14) × (number n 14 ≤ℤ pos 32767)
  pub scale : (pos 1 ≤ℤ number n 15) × (number n 15 ≤ℤ pos (2 ^ 40))
  pub of_kind : number n 15 ≤ℤ (scale_range kind).1
  pub ahead : (near_range kind).0 ≤ℤ number n 17
  pub unit : (pos 1 ≤ℤ number n 16) × (number n 16 ≤ℤ pos (2 ^ 40))
  pub near : (pos 0 ≤ℤ number n 17) × (number n 17 ≤ℤ pos (2 ^ 32 - 2))
  pub far : (number n 17 ≤ℤ number n 18) × (number n 18 ≤ℤ pos (2 ^ 32 - 2))
  pub pixels : (number n 1 *ℤ number n 2) ≤ℤ pos 9437184

pub in_range : (kind : Projection) (n : List ℤ) → length n ≡ 18 → first_outside kind n ≡ None → InRange kind n
in_range kind n len none =
    let last : is_outside kind n 19 ≡ false = nowhere_outside kind n none 18 (omega arith) in
    record {
      width = ranged kind n len none 0 (omega arith);
      height = ranged kind n len none 1 (omega arith);
      eye_x = ranged kind n len none 2 (omega arith);
      eye_y = ranged kind n len none 3 (omega arith);
      eye_z = ranged kind n len none 4 (omega arith);
      right_x = ranged kind n len none 5 (omega arith);
      right_y = ranged kind n len none 6 (omega arith);
      right_z = ranged kind n len none 7 (omega arith);
      down_x = ranged kind n len none 8 (omega arith);
      down_y = ranged kind n len none 9 (omega arith);
      down_z = ranged kind n len none 10 (omega arith);
      forward_x = ranged kind n len none 11 (omega arith);
      forward_y = ranged kind n len none 12 (omega arith);
      forward_z = ranged kind n len none 13 (omega arith);
      scale = scale_range-within kind (number n 15) (ranged kind n len none 14 (omega arith));
      of_kind = (ranged kind n len none 14 (omega arith)).1;
      ahead = (ranged kind n len none 16 (omega arith)).0;
      unit = ranged kind n len none 15 (omega arith);
      near = near_range-within kind (number n 17) (ranged kind n len none 16 (omega arith));
      far = ranged kind n len none 17 (omega arith);
      pixels = (within (pos 1, pos 9437184) (number n 1 *ℤ number n 2) (sym (is_outside-pixels kind n len) ∙ last)).1;
    }

-- a number that is cast to 32 bits without a sign
pub cast_32 : (z : ℤ) → pos 0 ≤ℤ z → z ≤ℤ pos 4294967295 → T (non_neg (to_z w128 (of_z w128 z))) × Fits w32 (nat_abs (to_z w128 (of_z w128 z)))
cast_32 z low high = let fits : FitsSigned w128 z = omega (arith, ints) in simp to_z-of_z (cast_32_of z low high) where
  cast_32_of : (z : ℤ) → pos 0 ≤ℤ z → z ≤ℤ pos 4294967295 → T (non_neg z) × Fits w32 (nat_abs z)
  cast_32_of (pos n) low high = (tt, omega (arith, ints))
  cast_32_of (negsuc n) low high = absurd (omega (arith, ints))

-- one that is cast to 64 bits
pub cast_64 : (z : ℤ) → pos 0 ≤ℤ z → z ≤ℤ pos (2 ^ 40) → T (non_neg (to_z w128 (of_z w128 z))) × Fits w64 (nat_abs (to_z w128 (of_z w128 z)))
cast_64 z low high = let fits : FitsSigned w128 z = omega (arith, ints) in simp to_z-of_z (cast_64_of z low high) where
  cast_64_of : (z : ℤ) → pos 0 ≤ℤ z → z ≤ℤ pos (2 ^ 40) → T (non_neg z) × Fits w64 (nat_abs z)
  cast_64_of (pos n) low high = (tt, omega (arith, ints))
  cast_64_of (negsuc n) low high = absurd (omega (arith, ints))

-- a size that was cast lies where the number does
pub abs_within : (z : ℤ) (low high : ℕ) → high ≤ 2 ^ 40 → (pos low ≤ℤ z) × (z ≤ℤ pos high) → (low ≤ nat_abs (to_z w128 (of_z w128 z))) × (nat_abs (to_z w128 (of_z w128 z)) ≤ high)
abs_within z low high small given =
    let fits : FitsSigned w128 z = omega (arith, ints) in
    simp to_z-of_z (abs_within_of z given) where
      abs_within_of : (z : ℤ) → (pos low ≤ℤ z) × (z ≤ℤ pos high) → (low ≤ nat_abs z) × (nat_abs z ≤ high)
      abs_within_of (pos n) given = (omega (arith, ints), omega (arith, ints))
      abs_within_of (negsuc n) given = absurd (omega (arith, ints))

-- a scale that was cast is below the greatest of its kind
pub scale_kept : (kind : Projection) (z : ℤ) → (pos 1 ≤ℤ z) × (z ≤ℤ pos (2 ^ 40)) → z ≤ℤ (scale_range kind).1 → (1 ≤ nat_abs (to_z w128 (of_z w128 z))) × (pos (nat_abs (to_z w128 (of_z w128 z))) ≤ℤ (scale_range kind).1)
scale_kept kind z given of_kind =
    let fits : FitsSigned w128 z = omega (arith, ints) in
    simp to_z-of_z (kept z (scale_range kind).1 given of_kind) where
      kept : (z most : ℤ) → (pos 1 ≤ℤ z) × (z ≤ℤ pos (2 ^ 40)) → z ≤ℤ most → (1 ≤ nat_abs z) × (pos (nat_abs z) ≤ℤ most)
      kept (pos n) most given of_kind = (omega (arith, ints, given), of_kind)
      kept (negsuc n) most given of_kind = absurd (omega (arith, ints, given))

-- a least depth that was cast is at least the least of its kind
pub near_kept : (kind : Projection) (z : ℤ) → (pos 0 ≤ℤ z) × (z ≤ℤ pos (2 ^ 32 - 2)) → (near_range kind).0 ≤ℤ z → (near_range kind).0 ≤ℤ pos (nat_abs (to_z w128 (of_z w128 z)))
near_kept kind z given of_kind =
    let fits : FitsSigned w128 z = omega (arith, ints) in
    simp to_z-of_z (kept z (near_range kind).0 given of_kind) where
      kept : (z least : ℤ) → (pos 0 ≤ℤ z) × (z ≤ℤ pos (2 ^ 32 - 2)) → least ≤ℤ z → least ≤ℤ pos (nat_abs z)
      kept (pos n) least given of_kind = of_kind
      kept (negsuc n) least given of_kind = absurd (omega (arith, ints, given))

-- so do two of them
pub abs_in_order : (z y : ℤ) → pos 0 ≤ℤ z → (z ≤ℤ y) × (y ≤ℤ pos (2 ^ 32 - 2)) → nat_abs (to_z w128 (of_z w128 z)) ≤ nat_abs (to_z w128 (of_z w128 y))
abs_in_order z y low given =
    let fits : FitsSigned w128 z = omega (arith, ints) in
    let fits_y : FitsSigned w128 y = omega (arith, ints) in
    simp to_z-of_z (in_order z y low given.0) where
      in_order : (z y : ℤ) → pos 0 ≤ℤ z → z ≤ℤ y → nat_abs z ≤ nat_abs y
      in_order (pos m) (pos n) low le = omega (arith, ints)
      in_order (pos m) (negsuc n) low le = absurd (omega (arith, ints))
      in_order (negsuc m) y low le = absurd (omega (arith, ints))

-- and their product
pub abs-mul_within : (w h : ℤ) (m : ℕ) → (pos 1 ≤ℤ w) × (w ≤ℤ pos 4096) → (pos 1 ≤ℤ h) × (h ≤ℤ pos 4096) → (w *ℤ h) ≤ℤ pos m → nat_abs (to_z w128 (of_z w128 w)) * nat_abs (to_z w128 (of_z w128 h)) ≤ m
abs-mul_within w h m of_w of_h le =
    let fits : FitsSigned w128 w = omega (arith, ints) in
    let fits_h : FitsSigned w128 h = omega (arith, ints) in
    simp to_z-of_z (multiplied w h of_w.0 of_h.0 le) where
      multiplied : (w h : ℤ) → pos 1 ≤ℤ w → pos 1 ≤ℤ h → (w *ℤ h) ≤ℤ pos m → nat_abs w * nat_abs h ≤ m
      multiplied (pos a) (pos b) low_w low_h le = omega (arith, ints)
      multiplied (pos a) (negsuc b) low_w low_h le = absurd (omega (arith, ints))
      multiplied (negsuc a) h low_w low_h le = absurd (omega (arith, ints))

-- a vector of numbers in range, however it was made
pub vector_of : (v : Point) (n : List ℤ) (place : ℕ) → v ≡ point_from n place → (neg_ℤ (pos 32768) ≤ℤ number n place) × (number n place ≤ℤ pos 32767) → (neg_ℤ (pos 32768) ≤ℤ number n (place + 1)) × (number n (place + 1) ≤ℤ pos 32767) → (neg_ℤ (pos 32768) ≤ℤ number n (place + 2)) × (number n (place + 2) ≤ℤ pos 32767) → IsVector v
vector_of v n place e x y z = rw e record { x = x; y = y; z = z }

-- a part of a vector is a coordinate
pub coordinate_of : (z : ℤ) → (neg_ℤ (pos 32768) ≤ℤ z) × (z ≤ℤ pos 32767) → IsCoordinate z
coordinate_of z given = (omega (arith, ints), omega (arith, ints))
