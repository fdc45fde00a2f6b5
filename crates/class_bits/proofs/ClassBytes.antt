-- A class byte of formats 0 to 5: three flags and, below them, five bits of class.
use Rattle.std.proofs.Common.{◌≡◌, ℕ, ◌+◌, ◌*◌, ◌/◌, ◌%◌, ◌<◌, arith, bit_or, bit_and}
use Rattle.std.proofs.lemmas.Nat.{or_shifted}
use Rattle.std.proofs.lemmas.Nat.Bits.{and_high}

-- the flags with another class below them
pub flags_or_class : (byte class : ℕ) → byte < 256 → class < 32 → bit_or (bit_and byte 224) class ≡ byte / 32 * 32 + class
flags_or_class byte class fits low =
    let whole : byte / 32 % 8 ≡ byte / 32 = omega arith in
    rw (and_high byte 3 5, whole) (or_shifted (byte / 32) 5 class low)

pub class_under_flags : (byte class : ℕ) → class < 32 → (byte / 32 * 32 + class) % 32 ≡ class
class_under_flags byte class low = omega arith

pub flags_over_class : (byte class : ℕ) → class < 32 → (byte / 32 * 32 + class) / 32 ≡ byte / 32
flags_over_class byte class low = omega arith
