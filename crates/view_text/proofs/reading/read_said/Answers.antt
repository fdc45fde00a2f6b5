use Rattle.std.proofs.Common.{◌≡◌, ◌+◌, Some, arith}
use Rattle.view_base.specs.Cursor.{all_words}
use Rattle.view_base.specs.Fitting.{word_at}
use Rattle.view_text.specs.ViewWords.{kind, colouring}
use Rattle.view_text.proofs.ViewForms.{fits-kind, fits-colouring, fits-classes, fits-withheld, fits-further}
use Rattle.view_text.proofs.reading.read_said.Goals as goal

pub read-requires-clause-kind : goal.read-requires-clause-kind
read-requires-clause-kind c = λ word. rw c.new-rest.ensures.place (fits-kind word)

pub read-requires-2-clause-kind : goal.read-requires-2-clause-kind
read-requires-2-clause-kind c = λ word. rw c.in_ok-n.ensures.place (fits-colouring word)

pub read_filter_words-requires-clause-classes : goal.read_filter_words-requires-clause-classes
read_filter_words-requires-clause-classes c =
    let place : c.read-2.new.self.place ≡ 20 = omega (arith, c.in_ok-n.ensures.place, c.in_ok-colouring.ensures.place) in
    λ word. rw place (fits-classes word)

pub read_filter_words-requires-clause-withheld : goal.read_filter_words-requires-clause-withheld
read_filter_words-requires-clause-withheld c =
    let place : c.read-2.new.self.place + 1 ≡ 21 = omega (arith, c.in_ok-n.ensures.place, c.in_ok-colouring.ensures.place) in
    λ word. rw place (fits-withheld word)

pub end-requires-clause-last : goal.end-requires-clause-last
end-requires-clause-last c =
    let place : c.read_filter_words.new.rest.place ≡ 22 = omega (arith, c.in_ok-n.ensures.place, c.in_ok-colouring.ensures.place, c.in_ok-filter.ensures.place) in
    λ word. rw place (fits-further word)

pub returns-clause-colouring : goal.returns-clause-colouring
returns-clause-colouring c =
    let said : colouring (word_at (all_words c.args.source) 19) ≡ Some c.in_ok-colouring.colouring =
    rw (c.in_ok-n.ensures.place, c.in_ok-n.ensures.source, c.in_ok-kind.ensures.source, c.new-rest.ensures.source) at c.in_ok-colouring.ensures.value in
    said

pub returns-clause-kind : goal.returns-clause-kind
returns-clause-kind c =
    let said : kind (word_at (all_words c.args.source) 0) ≡ Some c.in_ok-kind.kind =
    rw (c.new-rest.ensures.place, c.new-rest.ensures.source) at c.in_ok-kind.ensures.value in
    said
