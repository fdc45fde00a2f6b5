use Rattle.std.proofs.Common.{leb, true, ◌≡◌, arith}
use Rattle.std.proofs.lemmas.Bool.{le-leb}
use Rattle.class_bits.proofs.ClassBytes.{flags_or_class, class_under_flags, flags_over_class}
use Rattle.class_bits.proofs.class_byte.with_class.Goals as goal

pub returns-then-format-le5-clause-byte : goal.returns-then-format-le5-clause-byte
returns-then-format-le5-clause-byte c =
    let low : leb c.args.format 5 ≡ true = le-leb _ _ c.if-format-le5.true in
    let room = rw low at c.requires.room in
    rw low (flags_or_class c.args.byte c.args.class (omega arith) (omega arith))

pub returns-then-format-le5-clause-class : goal.returns-then-format-le5-clause-class
returns-then-format-le5-clause-class c =
    let low : leb c.args.format 5 ≡ true = le-leb _ _ c.if-format-le5.true in
    let room = rw low at c.requires.room in
    rw (low, flags_or_class c.args.byte c.args.class (omega arith) (omega arith)) (class_under_flags c.args.byte c.args.class (omega arith))

pub returns-then-format-le5-clause-flags : goal.returns-then-format-le5-clause-flags
returns-then-format-le5-clause-flags c _ =
    let low : leb c.args.format 5 ≡ true = le-leb _ _ c.if-format-le5.true in
    let room = rw low at c.requires.room in
    rw (flags_or_class c.args.byte c.args.class (omega arith) (omega arith)) (flags_over_class c.args.byte c.args.class (omega arith))
