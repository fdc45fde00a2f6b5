use Rattle.std.proofs.Common.{◌≡◌, ◌≤◌, ◌∙◌, ◌++◌, length, take, drop, true, false, is_err, rules, arith}
use Rattle.sessions.specs.declared.serving.TheConstants.{INPUT_LIMIT}
use Rattle.sessions.specs.Talk.{talk_of}
use Rattle.sessions.proofs.Taking.{listened_fault, listened_limit, listened_last, listened_piece, heard_piece, leaves_more, leaves_none, leaves_front, fits_front, taken_many, taken_more}
use Rattle.std.proofs.lemmas.List.{length-take}
use Rattle.sessions.proofs.serving.listen.Goals as goal

pub returns-in-Err-clause-listened : goal.returns-in-Err-clause-listened
returns-in-Err-clause-listened g c =
    let heard = c.loop-pass.invariant.heard in
    listened_fault _ heard.0 _ _ _ _ (g.I.Source.left c.loop-pass.source) _ _ heard.1 c.loop-pass.invariant.few heard.2 heard.3

pub returns-in-Ok-eq0-clause-listened : goal.returns-in-Ok-eq0-clause-listened
returns-in-Ok-eq0-clause-listened g c =
    let heard = c.loop-pass.invariant.heard in
    rw c.reason_of.ensures (listened_last _ heard.0 (talk_of c.loop-pass.pass c.loop-pass.marks) _ c.loop-pass.pending _ _ (g.I.Source.left c.take.new.self) (g.O.Sink.got c.loop-pass.sink) _ _ c.hear_end-last.result heard.1 c.loop-pass.invariant.few (leaves_none _ _ _ heard.0 c.take.new.buf _ c.in-Ok-eq0.field-0-test heard.2 c.in-Ok-eq0.ensures.bytes) (c.in-Ok-eq0.ensures.end c.in-Ok-eq0.field-0-test (omega (arith, length-take c.min-room.result c.loop-pass.piece))) heard.3 c.hear_end-last.ensures.heard c.hear_end-last.ensures.gave_up)

pub returns-then-taken-gt-INPUT_LIMIT-clause-listened : goal.returns-then-taken-gt-INPUT_LIMIT-clause-listened
returns-then-taken-gt-INPUT_LIMIT-clause-listened g c =
    let heard = c.loop-pass.invariant.heard in
    let n = c.in-Ok.n in
    let fits : n ≤ length c.take.new.buf = omega (arith, c.in-Ok.ensures.fits, length-take c.min-room.result c.loop-pass.piece) in
    let below : n ≤ c.min-room.result = omega (arith, c.in-Ok.ensures.fits, length-take c.min-room.result c.loop-pass.piece) in
    let one : (c.loop-pass.taken ≡ INPUT_LIMIT) × (n ≡ 1) = (omega arith, omega arith) in
    listened_limit _ heard.0 (take n c.take.new.buf) _ c.loop-pass.pending _ _ (g.I.Source.left c.take.new.self) _ _ (heard.1 ∙ one.0) (taken_more c.take.new.buf n fits ∙ one.1) (omega arith) (leaves_more _ _ _ heard.0 _ heard.2 c.in-Ok.ensures.bytes) heard.3

pub returns-then-is_err-clause-listened : goal.returns-then-is_err-clause-listened
returns-then-is_err-clause-listened g c =
    let heard = c.loop-pass.invariant.heard in
    let n = c.in-Ok.n in
    let fits : n ≤ length c.take.new.buf = omega (arith, c.in-Ok.ensures.fits, length-take c.min-room.result c.loop-pass.piece) in
    let failed : is_err c.hear-heard.result ≡ true = search rules in
    let behind = drop c.min-room.result c.loop-pass.piece in
    let buf = c.take.new.buf ++ behind in
    rw c.reason_of-then-is_err.ensures (listened_piece _ heard.0 (take n buf) (talk_of c.loop-pass.pass c.loop-pass.marks) _ c.loop-pass.pending _ _ _ (g.I.Source.left c.take.new.self) (g.O.Sink.got c.loop-pass.sink) _ _ c.hear-heard.result failed (taken_many heard.0 buf _ n heard.1 (fits_front c.take.new.buf behind n fits)) c.if-taken-gt-INPUT_LIMIT.false heard.2 (leaves_front _ _ c.take.new.buf behind n fits c.in-Ok.ensures.bytes) heard.3 c.hear-heard.ensures.gave_up)

pub loop-pass-preserved : goal.loop-pass-preserved
loop-pass-preserved g c =
    let heard = c.loop-pass.invariant.heard in
    let n = c.in-Ok.n in
    let fits : n ≤ length c.take.new.buf = omega (arith, c.in-Ok.ensures.fits, length-take c.min-room.result c.loop-pass.piece) in
    let whole : is_err c.hear-heard.result ≡ false = search rules in
    let behind = drop c.min-room.result c.loop-pass.piece in
    let buf = c.take.new.buf ++ behind in
    record {
      heard = (
        heard.0 ++ take n buf,
        taken_many heard.0 buf _ n heard.1 (fits_front c.take.new.buf behind n fits),
        leaves_more _ _ _ heard.0 (take n buf) heard.2 (leaves_front _ _ c.take.new.buf behind n fits c.in-Ok.ensures.bytes),
        heard_piece _ heard.0 (take n buf) (talk_of c.loop-pass.pass c.loop-pass.marks) _ c.loop-pass.pending _ _ (g.O.Sink.got c.loop-pass.sink) _ c.hear-heard.result whole heard.3 c.hear-heard.ensures.heard,
      );
      ready = c.hear-heard.ensures.ready;
      few = search rules;
      count = search rules;
      reads = search rules;
      writes = search rules;
    }
