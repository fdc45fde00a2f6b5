use Rattle.std.proofs.Common.{rules, ◌≡◌, ◌∷◌, ap, arith, length, suc}
use Rattle.std.proofs.lemmas.List.{length-map}
use Rattle.std.specs.Prelude.{string_bytes}
use Rattle.view_commands.specs.Run.{HasPair}
use Rattle.std.specs.Vec.Iter.{into_iter_items}
use Rattle.view_words.specs.CommandLine.{texts}
use Rattle.view_commands.specs.Steps.{IsUnread}
use Rattle.view_commands.proofs.Chains.{each-first, shuts-one, unread-others}
use Rattle.view_commands.proofs.Openings.{unread-then}
use Rattle.view_commands.proofs.opening.+shut_all.Goals as goal

pub shut_all-requires-clause-unread : goal.shut_all-requires-clause-unread
shut_all-requires-clause-unread g t c κs within =
    let is : into_iter_items c.args.seats ≡ c.in-Some.seat ∷ into_iter_items c.next.new.self = search rules in
    unread-others _ _ (texts c.args.words.now) _ c.in-Some.seat (into_iter_items c.next.new.self) (into_iter_items c.args.seats) is c.shut.ensures.desk.rest.known c.requires.unread

pub returns-in-Some : goal.returns-in-Some
returns-in-Some g t c =
    let is : into_iter_items c.args.seats ≡ c.in-Some.seat ∷ into_iter_items c.next.new.self = search rules in
    let first = each-first (IsUnread (g.D.Desk.says c.args.desk.now) (texts c.args.words.now)) _ c.in-Some.seat (into_iter_items c.next.new.self) (into_iter_items c.args.seats) is c.requires.unread in
    let length_is : length (into_iter_items c.args.seats) ≡ suc (length (into_iter_items c.next.new.self)) = ap length is in
    let words_are : length (texts c.args.words.now) ≡ length c.args.words.now = length-map c.args.words.now string_bytes in
    let all = c.requires.pairs in
    let pair : HasPair (texts c.args.words.now) c.args.k = omega (arith, length_is, words_are, all) in
    unread-then _ (g.D.Desk.says c.shut.new.self) _ (texts c.args.words.now)
    (shuts-one _ _ (texts c.args.words.now) c.args.k c.input_name.result.now _ _ _ c.in-Some.seat pair c.input_name.ensures c.into_parts-input.ensures.input first c.shut.ensures.desk)
    c.shut_all.ensures
