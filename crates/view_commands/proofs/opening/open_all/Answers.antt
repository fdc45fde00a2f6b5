use Rattle.std.proofs.Common.{◌≡◌, ◌+◌, ◌*◌, ◌∙◌, length, arith}
use Rattle.std.proofs.lemmas.List.{length-map}
use Rattle.std.specs.Prelude.{string_bytes}
use Rattle.view_words.specs.CommandLine.{texts}
use Rattle.view_commands.proofs.Openings.{journal-opened, journal-refused, journal-unread}
use Rattle.view_commands.proofs.opening.open_all.Goals as goal

pub returns-clause-opened : goal.returns-clause-opened
returns-clause-opened g c =
    let pairs : length (texts c.args.words.now) ≡ 4 + 2 * c.args.count = length-map c.args.words.now string_bytes ∙ c.requires.pairs in
    let size = c.in_ok-open_sessions.ensures.count in
    journal-opened c.open_written.result g.D.Desk.tells (g.D.Desk.says c.args.desk.now) (g.D.Desk.says c.open_sessions.new.desk) (g.D.Desk.says c.open_written.new.desk) (texts c.args.words.now) c.args.shared.now.name c.open_sessions.new.seats.items (omega (arith, pairs, size)) c.in_ok-open_sessions.ensures.opened c.open_written.ensures.opened

pub returns-clause-refused : goal.returns-clause-refused
returns-clause-refused g c =
    let pairs : length (texts c.args.words.now) ≡ 4 + 2 * c.args.count = length-map c.args.words.now string_bytes ∙ c.requires.pairs in
    let size = c.in_ok-open_sessions.ensures.count in
    journal-refused c.open_written.result g.D.Desk.tells (g.D.Desk.says c.args.desk.now) (g.D.Desk.says c.open_sessions.new.desk) (g.D.Desk.says c.open_written.new.desk) (texts c.args.words.now) c.args.shared.now.name c.open_sessions.new.seats.items (omega (arith, pairs, size)) c.in_ok-open_sessions.ensures.opened c.open_written.ensures.refused

pub returns-clause-unread : goal.returns-clause-unread
returns-clause-unread g c =
    let pairs : length (texts c.args.words.now) ≡ 4 + 2 * c.args.count = length-map c.args.words.now string_bytes ∙ c.requires.pairs in
    let size = c.in_ok-open_sessions.ensures.count in
    journal-unread c.open_written.result g.D.Desk.tells (g.D.Desk.says c.args.desk.now) (g.D.Desk.says c.open_sessions.new.desk) (g.D.Desk.says c.open_written.new.desk) (texts c.args.words.now) c.args.shared.now.name c.open_sessions.new.seats.items (omega (arith, pairs, size)) c.in_ok-open_sessions.ensures.opened c.open_written.ensures.opened c.open_written.ensures.refused
