use Rattle.std.proofs.Common.{◌≡◌, ◌+◌, ◌-◌, ◌≤◌, length}
use Rattle.las_survey.specs.declared.loading.TheConstants.{LIMIT}
use Rattle.las_survey.specs.Loading.{Took}
use Rattle.las_survey.proofs.loading.taken_from.Given as goal

abbrev pub invariant-loop-bytes : goal.invariant-loop-bytes
invariant-loop-bytes g l = record {
  took : Took (g.S.Source.left l.fn.source) (g.S.Source.taken l.fn.source) l.bytes.items (g.S.Source.left l.source) (g.S.Source.taken l.source);
  calm : g.S.Source.faults l.source ≡ g.S.Source.faults l.fn.source;
  short : length l.bytes.items ≤ LIMIT;
}

abbrev pub decreases-loop-bytes : goal.decreases-loop-bytes
decreases-loop-bytes g l = LIMIT + 1 - length l.bytes.items
