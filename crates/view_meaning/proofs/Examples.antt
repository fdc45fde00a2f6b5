-- Pictures worked by hand: the definitions give the bytes that arithmetic gives.
use Rattle.std.proofs.Common.{◌≡◌, ℕ, List, [], ◌∷◌, ◌++◌, ◌-◌, refl, replicate, take, Some, None, ℤ, pos, negsuc}
use Rattle.std.specs.Prelude.{codes}
use Rattle.std.specs.Int.{cast_unsigned, w32, to_le_bytes, w64}
use Rattle.std.specs.List.{flat_map}
use Rattle.view_base.specs.declared.place.Point.{Point}
use Rattle.view_meaning.specs.Survey.{u8_at, u16_at, u32_at, u64_at, i32_at, evlrs_at, evlr_count, record_count, record_at, points_end, point_of, class_byte, withheld_of}
use Rattle.view_base.specs.declared.fault.SurveyFault.TheVariants.{Header, Points}
use Rattle.view_base.specs.declared.fault.HeaderFault.TheVariants.{TooShort, Signature, Version, HeaderSize}
use Rattle.view_meaning.specs.Layout.{block_size, header_faults, vlr_at, vlr_fits, vlr_fault, evlr_at, evlr_fits, evlr_fault, fault}
use Rattle.view_meaning.specs.Classes.{has, class_at, classes, passes}
use Rattle.view_meaning.specs.Camera.{Lens, spot, orthographic, perspective}
use Rattle.view_meaning.specs.Picture.{by_class, is_candidate, candidates, depth_of, nearest, colour, pixel}

abbrev zeros : ℕ → List ℕ
zeros n = replicate n 0

-- the bytes of a signed coordinate
abbrev coordinate : ℤ → List ℕ
coordinate z = to_le_bytes w32 (cast_unsigned w32 z)

-- a record of 20 bytes: X, Y, Z, and the class byte
abbrev record_bytes : Point × ℕ → List ℕ
record_bytes r = coordinate r.0.x ++ coordinate r.0.y ++ coordinate r.0.z ++ zeros 3 ++ r.1 ∷ zeros 4

-- a plain survey with these records
abbrev plain : ℕ → List (Point × ℕ) → List ℕ
plain count records =
    codes "LASF" ++ zeros 20 ++ 1 ∷ 4 ∷ zeros 68 ++ (0x77 ∷ 1 ∷ []) ++ (0x77 ∷ 1 ∷ 0 ∷ 0 ∷ []) ++ zeros 4 ++ 0 ∷ 20 ∷ 0 ∷ zeros 140
    ++ to_le_bytes w64 count ++ zeros 120 ++ flat_map record_bytes records

abbrev at : ℤ → ℤ → ℤ → Point
at x y z = record { x = x; y = y; z = z }

-- an orthographic camera of one pixel at the origin that looks along Z
abbrev one_pixel : Lens
one_pixel = record {
  kind = orthographic;
  width = 1;
  height = 1;
  eye = at (pos 0) (pos 0) (pos 0);
  right = at (pos 1) (pos 0) (pos 0);
  down = at (pos 0) (pos 1) (pos 0);
  forward = at (pos 0) (pos 0) (pos 1);
  scale = 1;
  unit = 1;
  near = 0;
  far = 10;
}

-- the pixel of a column and row in a picture of a file by class, all records shown
abbrev shows : List ℕ → Lens → ℕ → ℕ → List ℕ
shows b lens x y = pixel b (classes b []) (by_class lens) x y

abbrev class_2 : List ℕ
class_2 = 0xC6 ∷ 0x86 ∷ 0xFA ∷ []

abbrev class_6 : List ℕ
class_6 = 0xD2 ∷ 0x92 ∷ 0x6E ∷ []

abbrev black : List ℕ
black = 0 ∷ 0 ∷ 0 ∷ []

-- one point in class 2
the_one_point_shows : shows (plain 1 ((at (pos 0) (pos 0) (pos 5), 2) ∷ [])) one_pixel 0 0 ≡ class_2
unfolding u8_at u16_at u32_at u64_at i32_at record_count record_at point_of class_byte withheld_of has class_at classes passes spot is_candidate candidates depth_of nearest colour pixel
the_one_point_shows = refl

-- no points
nothing_shows_black : shows (plain 0 ([])) one_pixel 0 0 ≡ black
unfolding u8_at u16_at u32_at u64_at i32_at record_count record_at point_of class_byte withheld_of has class_at classes passes spot is_candidate candidates depth_of nearest colour pixel
nothing_shows_black = refl

-- the nearer of two records shows, though it stands later
the_nearer_shows : shows (plain 2 ((at (pos 0) (pos 0) (pos 7), 2) ∷ (at (pos 0) (pos 0) (pos 3), 6) ∷ [])) one_pixel 0 0 ≡ class_6
unfolding u8_at u16_at u32_at u64_at i32_at record_count record_at point_of class_byte withheld_of has class_at classes passes spot is_candidate candidates depth_of nearest colour pixel
the_nearer_shows = refl

-- of two records as deep the lower number shows
the_lower_record_wins_a_tie : shows (plain 2 ((at (pos 900) (pos 0) (pos 5), 2) ∷ (at (pos 0) (pos 0) (pos 5), 6) ∷ [])) (record one_pixel { scale = 1000 }) 0 0 ≡ class_2
unfolding u8_at u16_at u32_at u64_at i32_at record_count record_at point_of class_byte withheld_of has class_at classes passes spot is_candidate candidates depth_of nearest colour pixel
the_lower_record_wins_a_tie = refl

-- depths 11 and 10 are both 2 in units of 4
depth_is_counted_in_units : shows (plain 2 ((at (pos 0) (pos 0) (pos 11), 2) ∷ (at (pos 0) (pos 0) (pos 10), 6) ∷ [])) (record one_pixel { unit = 4 }) 0 0 ≡ class_2
unfolding u8_at u16_at u32_at u64_at i32_at record_count record_at point_of class_byte withheld_of has class_at classes passes spot is_candidate candidates depth_of nearest colour pixel
depth_is_counted_in_units = refl

-- in perspective the column of -1 / 2 is the one left of the middle
a_column_is_rounded_down : shows (plain 1 ((at (negsuc 0) (pos 0) (pos 2), 2) ∷ [])) (record one_pixel { kind = perspective; width = 2; near = 1 }) 0 0 ≡ class_2
unfolding u8_at u16_at u32_at u64_at i32_at record_count record_at point_of class_byte withheld_of has class_at classes passes spot is_candidate candidates depth_of nearest colour pixel
a_column_is_rounded_down = refl

a_column_is_rounded_down_1 : shows (plain 1 ((at (negsuc 0) (pos 0) (pos 2), 2) ∷ [])) (record one_pixel { kind = perspective; width = 2; near = 1 }) 1 0 ≡ black
unfolding u8_at u16_at u32_at u64_at i32_at record_count record_at point_of class_byte withheld_of has class_at classes passes spot is_candidate candidates depth_of nearest colour pixel
a_column_is_rounded_down_1 = refl

-- depth 2^32 - 1 is beyond the far end, 2^32 - 2 is at it
the_last_depth_is_not_in_view : shows (plain 2 ((at (pos 0) (pos 0) (pos 2147483647), 2) ∷ (at (pos 0) (pos 0) (pos 2147483646), 6) ∷ [])) (record one_pixel { eye = at (pos 0) (pos 0) (negsuc 2147483647); far = 4294967294 }) 0 0 ≡ class_6
unfolding u8_at u16_at u32_at u64_at i32_at record_count record_at point_of class_byte withheld_of has class_at classes passes spot is_candidate candidates depth_of nearest colour pixel
the_last_depth_is_not_in_view = refl

-- the camera of the largest products
abbrev widest : Lens
widest = record {
  kind = orthographic;
  width = 768;
  height = 1;
  eye = at (pos 2147483647) (pos 2147483647) (pos 2147483647);
  right = at (negsuc 32767) (negsuc 32767) (negsuc 32767);
  down = at (pos 0) (pos 0) (pos 0);
  forward = at (negsuc 32767) (negsuc 32767) (negsuc 32767);
  scale = 1099511627776;
  unit = 1099511627776;
  near = 0;
  far = 4294967294;
}

-- three products of 2^15 and 2^32 in one sum
the_largest_products_do_not_wrap : shows (plain 1 ((at (negsuc 2147483647) (negsuc 2147483647) (negsuc 2147483647), 2) ∷ [])) widest 767 0 ≡ class_2
unfolding u8_at u16_at u32_at u64_at i32_at record_count record_at point_of class_byte withheld_of has class_at classes passes spot is_candidate candidates depth_of nearest colour pixel
the_largest_products_do_not_wrap = refl

the_largest_products_do_not_wrap_1 : shows (plain 1 ((at (negsuc 2147483647) (negsuc 2147483647) (negsuc 2147483647), 2) ∷ [])) widest 766 0 ≡ black
unfolding u8_at u16_at u32_at u64_at i32_at record_count record_at point_of class_byte withheld_of has class_at classes passes spot is_candidate candidates depth_of nearest colour pixel
the_largest_products_do_not_wrap_1 = refl

-- of five records one is in view
points_beside_the_picture_do_not_show : shows (plain 5 ((at (negsuc 99999) (negsuc 99999) (pos 5), 2) ∷ (at (negsuc 9) (negsuc 9) (pos 5), 2) ∷ (at (pos 0) (pos 0) (pos 5), 6) ∷ (at (pos 10) (pos 10) (pos 5), 2) ∷ (at (pos 100000) (pos 100000) (pos 5), 2) ∷ [])) one_pixel 0 0 ≡ class_6
unfolding u8_at u16_at u32_at u64_at i32_at record_count record_at point_of class_byte withheld_of has class_at classes passes spot is_candidate candidates depth_of nearest colour pixel
points_beside_the_picture_do_not_show = refl

-- a survey of LAS 1.2 or 1.3 with these records, and a header of so many bytes
abbrev old : ℕ → ℕ → ℕ → List (Point × ℕ) → List ℕ
old minor size count records =
    codes "LASF" ++ zeros 20 ++ 1 ∷ minor ∷ zeros 68 ++ size ∷ 0 ∷ size ∷ 0 ∷ zeros 6 ++ 0 ∷ 20 ∷ 0 ∷ count ∷ zeros (size - 108) ++ flat_map record_bytes records

abbrev two_records : List (Point × ℕ)
two_records = (at (pos 0) (pos 0) (pos 5), 2) ∷ (at (pos 1) (pos 0) (pos 9), 6) ∷ []

-- the bytes at 247 are X of the second record, and no count
bytes_at_247_of_1_2_are_no_count : (u64_at (old 2 227 2 two_records) 247 ≡ 1) × (record_count (old 2 227 2 two_records) ≡ 2)
unfolding u8_at u32_at u64_at record_count
bytes_at_247_of_1_2_are_no_count = (refl, refl)

a_survey_of_1_2_shows : shows (old 2 227 2 two_records) one_pixel 0 0 ≡ class_2
unfolding u8_at u16_at u32_at u64_at i32_at record_count record_at point_of class_byte withheld_of has class_at classes passes spot is_candidate candidates depth_of nearest colour pixel
a_survey_of_1_2_shows = refl

a_survey_of_1_3_shows : shows (old 3 235 1 ((at (pos 0) (pos 0) (pos 5), 2) ∷ [])) one_pixel 0 0 ≡ class_2
unfolding u8_at u16_at u32_at u64_at i32_at record_count record_at point_of class_byte withheld_of has class_at classes passes spot is_candidate candidates depth_of nearest colour pixel
a_survey_of_1_3_shows = refl

-- the first fault of each of these files, and of those that are cut or damaged in one place
pub record OldFaults : Type 0 where
  pub of_1_2 : fault (old 2 227 2 two_records) ≡ None
  pub of_1_3 : fault (old 3 235 1 ((at (pos 0) (pos 0) (pos 5), 2) ∷ [])) ≡ None
  pub empty : fault (old 2 227 0 []) ≡ None
  pub cut_1_2 : fault (take 226 (old 2 227 0 [])) ≡ Some (Header (TooShort 226))
  pub cut_1_3 : fault (take 234 (old 3 235 0 [])) ≡ Some (Header (TooShort 234))
  pub cut_1_4 : fault (take 374 (plain 0 [])) ≡ Some (Header (TooShort 374))
  pub unsigned : fault (zeros 374) ≡ Some (Header Signature)
  pub unsigned_and_cut : fault (zeros 226) ≡ Some (Header (TooShort 226))
  pub small : fault (old 2 226 0 two_records) ≡ Some (Header (HeaderSize 226))
  pub early : fault (old 1 227 2 two_records) ≡ Some (Header (Version 1 1))
  pub late : fault (old 5 227 2 two_records) ≡ Some (Header (Version 1 5))
  pub points : fault (old 3 235 3 two_records) ≡ Some (Points 295 275)

old_faults : OldFaults
unfolding u8_at u16_at u32_at u64_at evlrs_at evlr_count record_count points_end block_size header_faults vlr_at vlr_fits vlr_fault evlr_at evlr_fits evlr_fault fault
old_faults = record { of_1_2 = refl; of_1_3 = refl; empty = refl; cut_1_2 = refl; cut_1_3 = refl; cut_1_4 = refl; unsigned = refl; unsigned_and_cut = refl; small = refl; early = refl; late = refl; points = refl }
