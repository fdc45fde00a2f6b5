use Rattle.std.proofs.Common.{◌≡◌, ◌+◌, ◌<◌, ◌≤◌, ℕ, length, get_or, refl, sym, ◌∙◌, ap, subst, arith}
use Rattle.std.proofs.lemmas.List.{length-set}
use Rattle.std.proofs.lemmas.List.FromFn.{length-range_with_len, get_or-range_with_len}
use Rattle.std.specs.List.{range_with_len}
use Rattle.view_meaning.specs.Survey.{point_of}
use Rattle.class_pages.specs.Choosing.{Pick}
use Rattle.version_store.proofs.Further.{further_none, further_more, further_all, step_most}
use Rattle.version_store.proofs.by_blocks.change_run.Goals as goal

pub loop-place-init : goal.loop-place-init
loop-place-init g c = record {
  size = refl;
  further = λ b old alike under. further_none b (g.T.Chooser.picks c.args.chooser.now) old c.args.draft.now (range_with_len c.args.first c.args.count) under;
  small = omega arith;
}

pub loop-place-preserved : goal.loop-place-preserved
loop-place-preserved g c =
    let pick : Pick = g.T.Chooser.picks c.args.chooser.now in
    let place = c.loop-place.place in
    let numbers = range_with_len c.args.first c.args.count in
    let size : length numbers ≡ c.args.count = length-range_with_len c.args.first c.args.count in
    let number : get_or numbers place 0 ≡ c.args.first + place = get_or-range_with_len c.args.first c.args.count place 0 c.loop-place-test.true in
    let there : place < length numbers = omega (arith, size, c.loop-place-test.true) in
    record {
      size = ap length c.in_ok-changed.ensures.picked.made ∙ length-set c.loop-place.draft (c.args.first + place) _ ∙ c.loop-place.invariant.size;
      further = λ b old alike under.
          further_more b pick old c.args.draft.now c.loop-place.draft c.change.new.self numbers place (place + 1) (c.args.first + place) c.loop-place.changed
          c.in_ok-changed.field-0 c.args.p refl there (sym number) (omega (arith, under.size, c.requires.within, c.loop-place-test.true)) c.requires.settled
          (subst (λ (i : ℕ). (class : ℕ) → pick c.args.p class ≡ pick (point_of b i) class) number (alike place 0 there))
          c.in_ok-changed.ensures.picked (c.loop-place.invariant.further b old alike under);
      small = let most : c.in_ok-changed.field-0 ≤ 1 = step_most _ _ c.in_ok-changed.ensures.picked.count in omega (arith, most, c.loop-place.invariant.small);
    }

pub returns : goal.returns
returns g c = λ b old alike under.
    further_all b (g.T.Chooser.picks c.args.chooser.now) old c.args.draft.now c.loop-place.draft (range_with_len c.args.first c.args.count) c.loop-place.place c.loop-place.changed
    (omega (arith, c.loop-place-test.false, length-range_with_len c.args.first c.args.count)) (c.loop-place.invariant.further b old alike under)
