use Rattle.std.proofs.Common.{◌<◌, ◌≤◌, ℕ, List, length, slice_index, arith, sym, ap, ◌∙◌}
use Rattle.std.proofs.lemmas.List.{get_or-take, length-take-le}
use Rattle.std.specs.Slots.{slots_items, slots_counts}
use Rattle.min_frame.proofs.Closing.{slice_index-get}
use Rattle.min_frame.proofs.words.FrameWords.word.Goals as goal

pub returns : goal.returns
returns c =
    let n = c.self.inside.pixels in
    let words : List ℕ = slots_items c.self.inside.closed.words in
    let within : n ≤ length words = omega (arith, c.self.invariant.0, slots_counts c.self.inside.closed.words) in
    let low : c.args.i < n = omega (arith, c.requires, ap length c.self.view_is, length-take-le n words within) in
    sym (ap (λ l. slice_index l c.args.i) (sym c.self.view_is) ∙ get_or-take n words c.args.i 0 low ∙ slice_index-get words c.args.i c.word.result c.word.ensures)
