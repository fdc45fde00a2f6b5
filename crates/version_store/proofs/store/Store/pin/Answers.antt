use Rattle.std.proofs.Common.{◌≡◌, suc, ◌-◌, length, arith}
use Rattle.version_store.proofs.HistoryLaws.{IsLegal-pin}
use Rattle.version_store.proofs.Keeping.{one_held, pins-few}
use Rattle.version_store.proofs.KeptAfter.{IsKept-pin}
use Rattle.version_store.proofs.store.Store.pin.Goals as goal

pub overflow_sub-last : goal.overflow_sub-last
overflow_sub-last c = omega (arith, one_held _ _ _ _ _ c.self.invariant)

pub index_mut-requires : goal.index_mut-requires
index_mut-requires c = omega (arith, one_held _ _ _ _ _ c.self.invariant)

pub overflow_add-index_mut : goal.overflow_add-index_mut
overflow_add-index_mut c =
    let few = pins-few _ _ _ _ _ c.self.invariant (c.len-last.result - 1) c.index_mut.result.now (omega (arith, one_held _ _ _ _ _ c.self.invariant)) c.index_mut.ensures.value in
    omega (arith, few)

pub invariant_of-self-2 : goal.invariant_of-self-2
invariant_of-self-2 c =
    let last : suc (c.len-last.result - 1) ≡ length c.self.inside.held.items = omega (arith, one_held _ _ _ _ _ c.self.invariant) in
    rw (rw c.reserve.ensures.items at c.append.ensures.items) (IsKept-pin _ _ _ _ _ (c.len-last.result - 1) c.args.who _ c.index_mut.result.now c.self.invariant last c.index_mut.ensures.value (omega (arith, c.in_ok-reserve.ensures.ok)))

pub returns-clause-legal : goal.returns-clause-legal
returns-clause-legal c = rw (rw c.reserve.ensures.items at c.append.ensures.items) (IsLegal-pin c.args.who c.self.inside.history.items c.self.invariant.legal)
