use Rattle.std.proofs.Common.{Result, Ok, Err, OnOk, OnErr, subst, sym}
use Rattle.version_store.specs.Store.{Stored}
use Rattle.unit_versions.specs.Owed.{IsOwed}
use Rattle.unit_versions.proofs.Owed.{IsOwed-publish}
use Rattle.unit_versions.proofs.party.Party.publish.Goals as goal

either : {A E : Type 0} (r : Result A E) (X Y P : Type 0) → OnOk r X → OnErr r Y → (X → P) → (Y → P) → P
either (Ok a) X Y P ok err first second = first ok
either (Err e) X Y P ok err first second = second err

pub invariant_of-self : goal.invariant_of-self
invariant_of-self g c = record {
  owed = either c.publish.result _ _ (IsOwed c.publish.new.self.history c.args.self.now.pins.items) c.publish.ensures.published c.publish.ensures.refused
      (λ is. subst (λ (s : Stored). IsOwed s.history c.args.self.now.pins.items) (sym is) (IsOwed-publish c.args.self.now.store.history c.args.self.now.pins.items c.args.who c.args.edit.now c.args.self.now.owed))
      (λ same. subst (λ (s : Stored). IsOwed s.history c.args.self.now.pins.items) (sym same) c.args.self.now.owed);
}
