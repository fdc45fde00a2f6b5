use Rattle.std.proofs.Common.{◌≡◌, ℕ, ◌<◌, ◌&&◌, ◌||◌, leb, ltb}
use Rattle.view_meaning.specs.Classes.{has}
use Rattle.class_bits.specs.Kept.{IsClassSet}
use Rattle.class_bits.proofs.class_set.ClassSet.add_range.Given as goal

abbrev pub invariant-loop-class : goal.invariant-loop-class
invariant-loop-class l = record {
  words : l.first < l.class → IsClassSet l.self;
  added : (c : ℕ) → c < 256 → has l.self c ≡ (has l.initial.self c || (leb l.first c && ltb c l.class));
}
