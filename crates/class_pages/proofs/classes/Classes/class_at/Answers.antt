use Rattle.std.proofs.Common.{◌≡◌, ℕ, List, ◌+◌, ◌*◌, ◌/◌, ◌%◌, ◌-◌, min, length, get_or, ap, ◌∙◌, arith}
use Rattle.class_pages.specs.Pages.{page_of}
use Rattle.class_pages.proofs.Pages.{get_or-page_of, length-page_of}
use Rattle.class_pages.proofs.classes.Classes.class_at.Goals as goal

pub bounds-as_slice-i : goal.bounds-as_slice-i
bounds-as_slice-i c =
    let is : c.as_slice.result.now ≡ page_of c.args.self.now (c.args.i / 4096) = c.as_slice.ensures ∙ c.deref.ensures ∙ c.page.ensures in
    let long : length c.as_slice.result.now ≡ min 4096 (length c.args.self.now - c.args.i / 4096 * 4096) = ap length is ∙ length-page_of c.args.self.now (c.args.i / 4096) in
    omega (arith, long, c.requires)

pub returns : goal.returns
returns c =
    let i = c.args.i in
    let is : c.as_slice.result.now ≡ page_of c.args.self.now (i / 4096) = c.as_slice.ensures ∙ c.deref.ensures ∙ c.page.ensures in
    let place : i / 4096 * 4096 + i % 4096 ≡ i = omega arith in
    ap (λ (l : List ℕ). get_or l (i % 4096) 0) is ∙ get_or-page_of c.args.self.now (i / 4096) (i % 4096) 0 (omega arith) ∙ ap (λ (k : ℕ). get_or c.args.self.now k 0) place
