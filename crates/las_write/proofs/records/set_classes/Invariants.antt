use Rattle.std.proofs.Common.{◌≡◌, ◌*◌, ℕ, List, length, take, drop}
use Rattle.view_meaning.specs.Survey.{record_length}
use Rattle.las_write.proofs.Runs.{half_saved}
use Rattle.las_write.proofs.records.set_classes.Given as goal

abbrev pub invariant-loop-k : goal.invariant-loop-k
invariant-loop-k l = record {
  size : length l.piece ≡ length l.classes * record_length l.survey;
  half : (all : List ℕ) → l.classes ≡ take (length l.classes) (drop l.first all) → l.piece ≡ half_saved l.survey all l.first (length l.classes) l.k;
}
