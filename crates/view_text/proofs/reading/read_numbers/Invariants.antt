use Rattle.std.proofs.Common.{◌≡◌, ◌+◌, length}
use Rattle.view_base.specs.Cursor.{all_words}
use Rattle.view_text.proofs.Numbers.{Reads}
use Rattle.view_text.proofs.reading.read_numbers.Given as goal

abbrev pub invariant-loop-i : goal.invariant-loop-i
invariant-loop-i l = record {
  size : length l.numbers ≡ 18;
  source : l.rest.source ≡ l.fn.rest.source;
  place : l.rest.place ≡ 1 + l.i;
  reads : Reads (all_words l.fn.rest.source) l.i l.numbers;
}
