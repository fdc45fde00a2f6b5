use Rattle.std.proofs.Common.{◌≡◌, ℕ, ◌<◌, false, length, slice_index_or}
use Rattle.view_meaning.specs.Classes.{has}
use Rattle.sessions.proofs.filter_table.marks_of.Given as goal

abbrev pub invariant-loop-class : goal.invariant-loop-class
invariant-loop-class l = record {
  size : length l.marks ≡ 256;
  each : (c : ℕ) → c < l.class → slice_index_or l.marks c false ≡ has l.classes c;
}
