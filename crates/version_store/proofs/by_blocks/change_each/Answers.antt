use Rattle.std.proofs.Common.{◌+◌, ◌<◌, ◌≤◌, length, get_or, refl, ◌∙◌, ap, arith}
use Rattle.std.proofs.lemmas.List.{length-set}
use Rattle.class_pages.specs.Choosing.{Pick}
use Rattle.version_store.proofs.Further.{further_none, further_more, further_all, step_most}
use Rattle.version_store.proofs.by_blocks.change_each.Goals as goal

pub loop-place-init : goal.loop-place-init
loop-place-init g c = record {
  size = refl;
  further = λ b old alike under. further_none b (g.T.Chooser.picks c.args.chooser.now) old c.args.draft.now c.args.numbers.now under;
  small = omega arith;
}

pub change-requires : goal.change-requires
change-requires g c =
    let within : get_or c.args.numbers.now c.loop-place.place 0 < length c.args.draft.now = c.requires.numbers c.loop-place.place 0 c.loop-place-test.true in
    omega (arith, within, c.loop-place.invariant.size)

pub loop-place-preserved : goal.loop-place-preserved
loop-place-preserved g c =
    let pick : Pick = g.T.Chooser.picks c.args.chooser.now in
    let numbers = c.args.numbers.now in
    let place = c.loop-place.place in
    record {
      size = ap length c.in_ok-changed.ensures.picked.made ∙ length-set c.loop-place.draft (get_or numbers place 0) _ ∙ c.loop-place.invariant.size;
      further = λ b old alike under.
          let within : get_or numbers place 0 < length c.args.draft.now = c.requires.numbers place 0 c.loop-place-test.true in
          further_more b pick old c.args.draft.now c.loop-place.draft c.change.new.self numbers place (place + 1) (get_or numbers place 0) c.loop-place.changed
          c.in_ok-changed.field-0 c.args.p refl c.loop-place-test.true refl (omega (arith, within, under.size)) c.requires.settled
          (alike place 0 c.loop-place-test.true) c.in_ok-changed.ensures.picked (c.loop-place.invariant.further b old alike under);
      small = let most : c.in_ok-changed.field-0 ≤ 1 = step_most _ _ c.in_ok-changed.ensures.picked.count in omega (arith, most, c.loop-place.invariant.small);
    }

pub returns : goal.returns
returns g c = λ b old alike under.
    further_all b (g.T.Chooser.picks c.args.chooser.now) old c.args.draft.now c.loop-place.draft c.args.numbers.now c.loop-place.place c.loop-place.changed (omega (arith, c.loop-place-test.false)) (c.loop-place.invariant.further b old alike under)
