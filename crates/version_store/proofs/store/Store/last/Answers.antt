use Rattle.std.proofs.Common.{◌≡◌, suc, ◌-◌, length, subst, ap, ◌∙◌, arith}
use Rattle.std.specs.Arc.{arc_value}
use Rattle.class_pages.specs.Fitting.{EachFits}
use Rattle.view_meaning.specs.Survey.{record_count, format_of}
use Rattle.view_meaning.specs.Classes as meaning
use Rattle.version_store.specs.Histories.{journal}
use Rattle.version_store.specs.Store.{Stored}
use Rattle.version_store.proofs.Keeping.{one_held, version_of, newest-version, newest-classes}
use Rattle.version_store.proofs.store.Store.last.Goals as goal

pub overflow_sub-len : goal.overflow_sub-len
overflow_sub-len c = omega (arith, one_held _ _ _ _ _ c.self.invariant)

pub index-requires : goal.index-requires
index-requires c = omega (arith, one_held _ _ _ _ _ c.self.invariant)

pub returns-clause-version : goal.returns-clause-version
returns-clause-version c =
    let last : suc (c.len.result - 1) ≡ length c.self.inside.held.items = omega (arith, one_held _ _ _ _ _ c.self.invariant) in
    newest-version _ _ _ _ _ c.self.invariant (c.len.result - 1) c.index.result.now last c.index.ensures
    ∙ ap (λ (s : Stored). length (journal s.history)) c.self.view_is

pub returns-clause-classes : goal.returns-clause-classes
returns-clause-classes c =
    let last : suc (c.len.result - 1) ≡ length c.self.inside.held.items = omega (arith, one_held _ _ _ _ _ c.self.invariant) in
    newest-classes _ _ _ _ _ c.self.invariant (c.len.result - 1) c.index.result.now last c.index.ensures
    ∙ ap (λ (s : Stored). meaning.classes s.bytes (journal s.history)) c.self.view_is

pub returns-clause-size : goal.returns-clause-size
returns-clause-size c =
    (version_of _ _ _ _ _ c.self.invariant (c.len.result - 1) c.index.result.now (omega (arith, one_held _ _ _ _ _ c.self.invariant)) c.index.ensures).size
    ∙ ap (λ (s : Stored). record_count s.bytes) c.self.view_is

pub returns-clause-top : goal.returns-clause-top
returns-clause-top c =
    subst (λ (s : Stored). EachFits (format_of s.bytes) (arc_value c.index.result.now.classes)) c.self.view_is
    (version_of _ _ _ _ _ c.self.invariant (c.len.result - 1) c.index.result.now (omega (arith, one_held _ _ _ _ _ c.self.invariant)) c.index.ensures).top
