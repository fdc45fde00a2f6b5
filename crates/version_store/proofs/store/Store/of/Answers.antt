use Rattle.std.proofs.Common.{[], length, subst, refl, sym, ap, ◌∙◌}
use Rattle.class_pages.specs.Fitting.{EachFits}
use Rattle.view_meaning.specs.Survey.{format_of}
use Rattle.version_store.specs.declared.held.Held.{Held}
use Rattle.version_store.specs.Store.{IsVersion}
use Rattle.version_store.proofs.KeptAfter.{IsVersion-first, IsKept-nil}
use Rattle.version_store.proofs.store.Store.of.Goals as goal

pub invariant_of-result : goal.invariant_of-result
invariant_of-result c =
    let made : Held = record { version = 0; pins = 0; classes = c.in_ok-classes.classes } in
    let version : IsVersion c.args.survey [] made = IsVersion-first c.args.survey made refl (c.in_ok-classes.ensures.ok ∙ c.in_ok-base.ensures.classes)
    (ap length c.in_ok-classes.ensures.ok ∙ c.in_ok-base.ensures.size) (subst (EachFits (format_of c.args.survey)) (sym c.in_ok-classes.ensures.ok) c.in_ok-base.ensures.top) in
    rw (c.new-2.ensures.items, rw (c.unwrap.ensures, c.in_ok-held.ensures.items) at c.push.ensures.items) (IsKept-nil _ _ made refl version)
