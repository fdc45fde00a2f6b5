use Rattle.std.proofs.Common.{rules, ◌≡◌, ◌+◌, ◌*◌, ◌∙◌, ◌++◌, ◌∷◌, [], ℕ, List, length, ap, arith, subst, sym}
use Rattle.std.proofs.lemmas.List.{length-map, length-append}
use Rattle.std.specs.Prelude.{string_bytes}
use Rattle.turn_gate.specs.Meaning.{Passed}
use Rattle.version_store.specs.declared.history.Entry.{Entry}
use Rattle.view_words.specs.CommandLine.{texts}
use Rattle.view_ends.specs.Desk.{Said}
use Rattle.view_commands.specs.Steps.{AreOpened, Seated}
use Rattle.view_commands.proofs.Openings.{opened-more, opened-refused, opened-unread}
use Rattle.view_commands.proofs.opening.open_sessions.Goals as goal

pub open_session-requires-clause-gate : goal.open_session-requires-clause-gate
open_session-requires-clause-gate g c κs within = ap (λ (p : Passed Entry). p.gate) c.loop-k.invariant.root ∙ ap (λ (p : Passed Entry). p.gate) c.requires.root

pub open_session-requires-clause-root : goal.open_session-requires-clause-root
open_session-requires-clause-root g c κs within = ap (λ (p : Passed Entry). p.root) c.loop-k.invariant.root ∙ ap (λ (p : Passed Entry). p.root) c.requires.root

pub open_session-requires-clause-given : goal.open_session-requires-clause-given
open_session-requires-clause-given g c κs within = ap (λ (p : Passed Entry). p.given) c.loop-k.invariant.root

pub open_session-requires-clause-seen : goal.open_session-requires-clause-seen
open_session-requires-clause-seen g c κs within = ap (λ (p : Passed Entry). p.seen) c.loop-k.invariant.root ∙ ap (λ (p : Passed Entry). p.seen) c.requires.root

pub returns-in-Err-clause-refused : goal.returns-in-Err-clause-refused
returns-in-Err-clause-refused g c =
    opened-refused g.D.Desk.tells (g.D.Desk.says c.args.desk.now) (g.D.Desk.says c.loop-k.desk) (g.D.Desk.says c.open_session.new.desk) (texts c.args.words.now) _ c.loop-k.seats.items c.loop-k.k c.in-Err.status c.loop-k.invariant.count c.loop-k.invariant.opened c.in-Err.ensures.refused

pub returns-in-Err-clause-each : goal.returns-in-Err-clause-each
returns-in-Err-clause-each g c =
    opened-unread g.D.Desk.tells (g.D.Desk.says c.args.desk.now) (g.D.Desk.says c.loop-k.desk) (g.D.Desk.says c.open_session.new.desk) (texts c.args.words.now) _ c.loop-k.seats.items c.in-Err.ensures.refused.known c.loop-k.invariant.opened.each

pub loop-k-preserved : goal.loop-k-preserved
loop-k-preserved g c =
    let old : Said = g.D.Desk.says c.args.desk.now in
    let mid : Said = g.D.Desk.says c.loop-k.desk in
    let new : Said = g.D.Desk.says c.open_session.new.desk in
    let items : c.push.new.self.items ≡ c.loop-k.seats.items ++ c.in-Ok.seat ∷ [] = search rules in
    let pairs : length (texts c.args.words.now) ≡ 4 + 2 * c.args.count = length-map c.args.words.now string_bytes ∙ c.requires.pairs in
    let more = opened-more g.D.Desk.tells old mid new (texts c.args.words.now) c.args.shared.now.name c.loop-k.seats.items c.args.count c.loop-k.k c.in-Ok.seat c.requires.line pairs (search rules) c.loop-k.invariant.count c.loop-k.invariant.opened c.in-Ok.ensures.opened in
    let size = c.loop-k.invariant.count in
    let one = length-append c.loop-k.seats.items (c.in-Ok.seat ∷ []) in
    let longer : length c.push.new.self.items ≡ length (c.loop-k.seats.items ++ c.in-Ok.seat ∷ []) = ap length items in
    let capacity = c.push.ensures.capacity in
    let room = c.loop-k.invariant.room in
    record {
      opened = subst (λ (l : List Seated). AreOpened g.D.Desk.tells old new (texts c.args.words.now) c.args.shared.now.name l) (sym items) more;
      count = omega (arith, size, one, longer);
      root = c.in-Ok.ensures.root ∙ ap (λ (p : Passed Entry). record p { out = p.out + 1; given = p.given + 1 }) c.loop-k.invariant.root;
      room = omega (arith, capacity, room);
    }

pub returns-clause-each : goal.returns-clause-each
returns-clause-each g c =
    opened-unread g.D.Desk.tells (g.D.Desk.says c.args.desk.now) (g.D.Desk.says c.loop-k.desk) (g.D.Desk.says c.loop-k.desk) (texts c.args.words.now) _ c.loop-k.seats.items (λ other known. known) c.loop-k.invariant.opened.each
