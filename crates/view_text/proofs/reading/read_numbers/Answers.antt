use Rattle.std.proofs.Common.{◌≡◌, ◌≤◌, ℕ, arith, subst}
use Rattle.view_base.specs.Cursor.{all_words}
use Rattle.view_text.proofs.ViewForms.{fits-number}
use Rattle.view_text.proofs.Numbers.{Reads, reads_all}
use Rattle.view_text.proofs.reading.read_numbers.Goals as goal

pub read-requires-clause-kind : goal.read-requires-clause-kind
read-requires-clause-kind c =
    let place = c.loop-i.rest.place in
    let first : 1 ≤ place = omega (arith, c.loop-i.invariant.place) in
    let last : place ≤ 18 = omega (arith, c.loop-i.invariant.place, c.loop-i-test.true) in
    λ word. fits-number place word first last

pub returns-clause-numbers : goal.returns-clause-numbers
returns-clause-numbers c =
    let ws = all_words c.args.rest.now.source in
    let last : c.loop-i.i ≡ 18 = omega arith in
    reads_all ws c.loop-i.numbers c.loop-i.invariant.size (subst (λ (k : ℕ). Reads ws k c.loop-i.numbers) last c.loop-i.invariant.reads)
