use Rattle.std.proofs.Common.{◌≡◌}
use Rattle.std.specs.Int.{int_min, int_max}
use Rattle.survey_info.specs.Text.{corner}
use Rattle.survey_info.proofs.Counts.{IsTally}
use Rattle.survey_info.proofs.summary.tally.Given as goal

abbrev pub invariant-loop-i : goal.invariant-loop-i
invariant-loop-i l = record {
  least : l.min ≡ corner int_min l.survey l.i;
  greatest : l.max ≡ corner int_max l.survey l.i;
  tally : IsTally l.survey l.i l.counts;
}
