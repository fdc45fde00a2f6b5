use Rattle.std.proofs.Common.{◌≡◌, ◌<◌, length, drop}
use Rattle.std.specs.List.{slice_split}
use Rattle.class_bits.specs.ClassSet.{no_classes, members}
use Rattle.class_bits.specs.Kept.{IsClassSet}
use Rattle.class_bits.specs.ClassSet.{is_comma}
use Rattle.class_bits.proofs.Items.{joined}
use Rattle.class_bits.proofs.class_list.read_classes.Given as goal

abbrev pub invariant-loop-item : goal.invariant-loop-item
invariant-loop-item l = record {
  words : IsClassSet l.classes;
  some : 0 < length l.yielded → 0 < length (members l.classes);
  rest : joined (drop (length l.yielded) (slice_split is_comma l.fn.word)) l.classes ≡ joined (slice_split is_comma l.fn.word) no_classes;
}
