use Rattle.std.proofs.Common.{ℕ, ◌*◌, ◌∙◌, ap, sym, refl, arith}
use Rattle.std.proofs.lemmas.List.{append-nil}
use Rattle.view_meaning.specs.Layout.{least_length}
use Rattle.survey_make.specs.Made.{state}
use Rattle.survey_make.proofs.Drawing.{state-more, record_bytes-drawn, records-more}
use Rattle.survey_make.proofs.Room.{next_fits, left-more}
use Rattle.survey_make.proofs.making.append_records.Goals as goal

pub loop-init : goal.loop-init
unfolding state
loop-init c = record {
  state = refl;
  room = omega arith;
  appended = sym (append-nil c.args.bytes.now.items);
}

pub append-requires-clause-room : goal.append-requires-clause-room
append-requires-clause-room c = next_fits c.args.records c.loop.counter (least_length c.args.format) c.args.bytes.now.spare c.loop.bytes.spare c.requires.room c.loop.invariant.room c.loop-test.true

pub loop-preserved : goal.loop-preserved
loop-preserved c = record {
  state = c.drawn.ensures.state ∙ ap (λ (u : ℕ). state u 5) c.loop.invariant.state ∙ state-more c.args.start (5 * c.loop.counter) 5 ∙ ap (state c.args.start) (omega arith);
  room = left-more c.loop.counter (least_length c.args.format) c.args.bytes.now.spare c.loop.bytes.spare c.append.new.bytes.spare c.loop.invariant.room c.append.ensures.spare;
  appended = records-more c.args.start c.args.format c.loop.counter c.args.bytes.now.items c.loop.bytes.items c.append.new.bytes.items _ c.loop.invariant.appended c.append.ensures.appended
      (record_bytes-drawn c.args.start c.args.format c.loop.counter c.loop.draws.state _ _ _ _ _ c.loop.invariant.state c.drawn.ensures.x c.drawn.ensures.y c.drawn.ensures.z c.drawn.ensures.intensity c.drawn.ensures.class);
}
