use Rattle.std.proofs.Common.{sym, ◌∷◌, subst, IsPermutation}
use Rattle.std.proofs.lemmas.List.Sorted.{IsPermutation-remove}
use Rattle.std.proofs.lemmas.Option.{get_or_from_slice_get, slice_get_within}
use Rattle.view_ends.proofs.opened.Opened.close.Goals as goal

pub returns-in-Some-clause-closed : goal.returns-in-Some-clause-closed
returns-in-Some-clause-closed c = λ _.
    let files = c.args.self.now.written.items in
    let gone = IsPermutation-remove files c.in-Some.i c.args.file (slice_get_within files c.in-Some.i c.args.file c.in-Some.ensures) (sym (get_or_from_slice_get files c.in-Some.i c.args.file c.args.file c.in-Some.ensures)) in
    subst (λ rest. IsPermutation files (c.args.file ∷ rest)) (sym c.remove.ensures.items) gone

pub returns-in-Some-clause-others : goal.returns-in-Some-clause-others
returns-in-Some-clause-others c = λ unwritten.
    let files = c.args.self.now.written.items in
    absurd (unwritten (c.in-Some.i, slice_get_within files c.in-Some.i c.args.file c.in-Some.ensures, get_or_from_slice_get files c.in-Some.i c.args.file c.args.file c.in-Some.ensures))
