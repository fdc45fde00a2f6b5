-- A LAS file as numbers at offsets (LAS 1.2, 1.3 and 1.4 R15, public header block and point data records).
use Rattle.std.specs.Prelude.{ℕ, ◌+◌, ◌*◌, ◌/◌, ◌%◌, ◌==◌, ◌||◌, nat_le, if◌then◌else◌, Bool, ℤ, List, slice_index, Option, Some, None}
use Rattle.std.specs.Int.{cast_signed, w32}
use Rattle.byteorder.specs.Endian.{little_from}
use Rattle.view_base.specs.declared.place.Point.{Point}
use Rattle.view_base.specs.declared.colour.Rgb.{Rgb}

-- the byte at a place
unfoldable pub u8_at : List ℕ → ℕ → ℕ
u8_at b at = slice_index b at

-- the unsigned number in the two bytes from a place, the lowest first
unfoldable pub u16_at : List ℕ → ℕ → ℕ
u16_at b at = little_from at 2 b

-- the unsigned number in the four bytes from a place
unfoldable pub u32_at : List ℕ → ℕ → ℕ
u32_at b at = little_from at 4 b

-- the unsigned number in the eight bytes from a place
unfoldable pub u64_at : List ℕ → ℕ → ℕ
u64_at b at = little_from at 8 b

-- the signed number in the four bytes from a place, in two's complement
unfoldable pub i32_at : List ℕ → ℕ → ℤ
i32_at b at = cast_signed w32 (little_from at 4 b)

-- the version's minor number
abbrev pub minor_of : List ℕ → ℕ
minor_of b = u8_at b 25

-- the header size
abbrev pub header_size : List ℕ → ℕ
header_size b = u16_at b 94

-- the offset to point data
abbrev pub points_at : List ℕ → ℕ
points_at b = u32_at b 96

-- the number of variable length records
abbrev pub vlr_count : List ℕ → ℕ
vlr_count b = u32_at b 100

-- the point data record format
abbrev pub format_of : List ℕ → ℕ
format_of b = u8_at b 104

-- the point data record length, in bytes
abbrev pub record_length : List ℕ → ℕ
record_length b = u16_at b 105

-- a number that LAS 1.4 alone has, and 0 in LAS 1.2 and 1.3
abbrev pub of_1_4 : List ℕ → ℕ → ℕ
of_1_4 b number = if minor_of b == 4 then number else 0

-- the start of the first extended variable length record
unfoldable pub evlrs_at : List ℕ → ℕ
evlrs_at b = of_1_4 b (u64_at b 235)

-- the number of extended variable length records
unfoldable pub evlr_count : List ℕ → ℕ
evlr_count b = of_1_4 b (u32_at b 243)

-- the number of point records: the 64 bits at 247 of LAS 1.4 where they are not 0, else the 32 bits at 107
unfoldable pub record_count : List ℕ → ℕ
record_count b = if of_1_4 b (u64_at b 247) == 0 then u32_at b 107 else u64_at b 247

-- where point data record i begins
unfoldable pub record_at : List ℕ → ℕ → ℕ
record_at b i = points_at b + i * record_length b

-- where the point data records end
unfoldable pub points_end : List ℕ → ℕ
points_end b = points_at b + record_count b * record_length b

-- X, Y and Z of record i, in the file's integer units
unfoldable pub point_of : List ℕ → ℕ → Point
point_of b i = record { x = i32_at b (record_at b i); y = i32_at b (record_at b i + 4); z = i32_at b (record_at b i + 8) }

-- the intensity of record i
unfoldable pub intensity_of : List ℕ → ℕ → ℕ
intensity_of b i = u16_at b (record_at b i + 12)

-- where a record of a format has its red, green and blue, if it has them
abbrev pub rgb_place : ℕ → Option ℕ
rgb_place format =
    if format == 2 then Some 20
    else if format == 3 || format == 5 then Some 28
    else if format == 7 || format == 8 || format == 10 then Some 30 else None

-- red, green and blue from a place
unfoldable pub rgb_at : List ℕ → ℕ → Rgb
rgb_at b at = record { red = u16_at b at; green = u16_at b (at + 2); blue = u16_at b (at + 4) }

-- where a record of a format has its class byte: with the flags in formats 0 to 5, after them in 6 to 10
abbrev pub class_place : ℕ → ℕ
class_place format = if nat_le format 5 then 15 else 16

-- the byte of record i that has its class
unfoldable pub class_byte : List ℕ → ℕ → ℕ
class_byte b i = u8_at b (record_at b i + class_place (format_of b))

-- whether a flags byte of a format has its withheld bit set: bit 7 in formats 0 to 5, bit 2 in 6 to 10
abbrev pub is_withheld : ℕ → ℕ → Bool
is_withheld format flags = if nat_le format 5 then flags / 128 % 2 == 1 else flags / 4 % 2 == 1

-- whether record i is withheld
unfoldable pub withheld_of : List ℕ → ℕ → Bool
withheld_of b i = is_withheld (format_of b) (u8_at b (record_at b i + 15))
