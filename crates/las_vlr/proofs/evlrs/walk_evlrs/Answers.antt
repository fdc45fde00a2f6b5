use Rattle.std.proofs.Common.{◌≡◌, arith}
use Rattle.las_vlr.proofs.Extended.{walked_none, walked_more, walked_all, walked_stop, walked_few, IsWalkedFar}
use Rattle.las_vlr.proofs.evlrs.walk_evlrs.Goals as goal

pub loop-k-init : goal.loop-k-init
loop-k-init c = rw c.new-places.ensures (walked_none c.args.bytes.now c.args.first c.args.points_end)

pub returns-in-None-clause-fault : goal.returns-in-None-clause-fault
returns-in-None-clause-fault c =
    walked_stop c.args.bytes.now c.args.first c.args.points_end c.args.count c.loop-k.k c.loop-k.at _ c.loop-k.invariant (omega arith) c.in-None.ensures.beyond

pub loop-k-preserved : goal.loop-k-preserved
loop-k-preserved c =
    rw c.in_ok-push-in-Some.ensures.pushed
    (walked_more c.args.bytes.now c.args.first c.args.points_end c.loop-k.k c.loop-k.at c.in-Some.length _ c.loop-k.invariant c.in-Some.ensures.after c.in-Some.ensures.length c.in-Some.ensures.fits)

pub returns-clause-fitting : goal.returns-clause-fitting
returns-clause-fitting c =
    let e : c.loop-k.k ≡ c.args.count = omega arith in
    let w : IsWalkedFar c.args.bytes.now c.args.first c.args.points_end c.args.count c.loop-k.at c.loop-k.places.items = rw (← e) c.loop-k.invariant in
    walked_all _ _ _ _ _ _ w

pub returns-clause-few : goal.returns-clause-few
returns-clause-few c = walked_few _ _ _ _ _ _ c.loop-k.invariant
