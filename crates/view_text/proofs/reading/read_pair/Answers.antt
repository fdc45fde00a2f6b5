use Rattle.std.proofs.Common.{◌≡◌, ◌+◌, arith}
use Rattle.view_text.proofs.ViewForms.{fits_filter-classes, fits_filter-withheld, fits_filter-further}
use Rattle.view_text.proofs.reading.read_pair.Goals as goal

pub read_filter_words-requires-clause-classes : goal.read_filter_words-requires-clause-classes
read_filter_words-requires-clause-classes c = λ word. rw c.new-rest.ensures.place (fits_filter-classes word)

pub read_filter_words-requires-clause-withheld : goal.read_filter_words-requires-clause-withheld
read_filter_words-requires-clause-withheld c = λ word. rw c.new-rest.ensures.place (fits_filter-withheld word)

pub end-requires-clause-last : goal.end-requires-clause-last
end-requires-clause-last c =
    let place : c.read_filter_words.new.rest.place ≡ 2 = omega (arith, c.new-rest.ensures.place, c.in_ok-filter.ensures.place) in
    λ word. rw place (fits_filter-further word)
