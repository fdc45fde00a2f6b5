use Rattle.std.proofs.Common.{◌≡◌, ◌≤◌, length}
use Rattle.std.specs.Prelude.{vec_capacity}
use Rattle.view_words.specs.CommandLine.{texts}
use Rattle.view_commands.specs.Steps.{AreOpened}
use Rattle.view_commands.proofs.opening.open_sessions.Given as goal

abbrev pub invariant-loop-k : goal.invariant-loop-k
invariant-loop-k g l = record {
  opened : AreOpened g.D.Desk.tells (g.D.Desk.says l.fn.desk) (g.D.Desk.says l.desk) (texts l.fn.words) l.fn.shared.name l.seats.items;
  count : length l.seats.items ≡ l.k;
  root : l.root ≡ record l.fn.root { out = l.k; given = l.k };
  room : l.fn.count ≤ vec_capacity l.seats;
}
