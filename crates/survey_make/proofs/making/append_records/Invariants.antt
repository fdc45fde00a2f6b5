use Rattle.std.proofs.Common.{◌≡◌, ◌≤◌, ◌+◌, ◌*◌, ◌++◌}
use Rattle.std.specs.List.{range_with_len, flat_map}
use Rattle.survey_make.specs.Made.{made_record, state}
use Rattle.view_meaning.specs.Layout.{least_length}
use Rattle.survey_make.proofs.making.append_records.Given as goal

abbrev pub invariant-loop : goal.invariant-loop
invariant-loop l = record {
  state : l.draws.state ≡ state l.start (5 * l.counter);
  room : l.fn.bytes.spare ≤ l.bytes.spare + l.counter * least_length l.format;
  appended : l.bytes.items ≡ l.fn.bytes.items ++ flat_map (made_record l.start l.format) (range_with_len 0 l.counter);
}
