use Rattle.std.proofs.Common.{◌≡◌, ◌∙◌, arith}
use Rattle.view_base.specs.declared.cursor.WordsOf.TheVariants.{Line}
use Rattle.edit_ops.proofs.EditLines.{fits-keyword, fits-classes, fits-digits, fits-further}
use Rattle.edit_ops.proofs.reading.read_fields.Goals as goal

pub keyword-requires-clause-kind : goal.keyword-requires-clause-kind
keyword-requires-clause-kind c = λ word. rw c.new-rest.ensures.place (fits-keyword word)

pub read-requires-clause-kind : goal.read-requires-clause-kind
read-requires-clause-kind c =
    let place : c.read_point-2.new.rest.place ≡ 7 = omega (arith, c.new-rest.ensures.place, c.in_ok-keyword.ensures.place, c.in_ok-min.ensures.place, c.in_ok-max.ensures.place) in
    λ word. rw place (fits-classes word)

pub read-requires-2-clause-kind : goal.read-requires-2-clause-kind
read-requires-2-clause-kind c =
    let place : c.read.new.self.place ≡ 8 = omega (arith, c.new-rest.ensures.place, c.in_ok-keyword.ensures.place, c.in_ok-min.ensures.place, c.in_ok-max.ensures.place, c.in_ok-from.ensures.place) in
    λ word. rw place (fits-digits word)

pub end-requires-clause-last : goal.end-requires-clause-last
end-requires-clause-last c =
    let place : c.read-2.new.self.place ≡ 9 = omega (arith, c.new-rest.ensures.place, c.in_ok-keyword.ensures.place, c.in_ok-min.ensures.place, c.in_ok-max.ensures.place, c.in_ok-from.ensures.place, c.in_ok-to.ensures.place) in
    λ word. rw place (fits-further word)

pub returns-clause-min : goal.returns-clause-min
returns-clause-min c =
    let source : c.keyword.new.self.source ≡ Line c.args.line = c.keyword.ensures.source ∙ c.new-rest.ensures.source in
    let place : c.keyword.new.self.place ≡ 1 = omega (arith, c.new-rest.ensures.place, c.in_ok-keyword.ensures.place) in
    rw (source, place) at c.in_ok-min.ensures.value
