use Rattle.std.proofs.Common.{rules, ◌∙◌, List, ℕ, ap, subst, sym}
use Rattle.version_store.specs.Histories.{journal}
use Rattle.view_ends.specs.Desk.{IsKnown}
use Rattle.view_commands.specs.Run.{journal_text}
use Rattle.view_commands.specs.Texts.{KeepsText}
use Rattle.turn_gate.specs.Meaning.{Passed}
use Rattle.version_store.specs.declared.history.Entry.{Entry}
use Rattle.view_words.specs.CommandLine.{texts}
use Rattle.view_commands.proofs.Chains.{all-known, few-kept}
use Rattle.view_commands.proofs.RunFinished.{joined-out, joined-same, run-finished}
use Rattle.view_commands.proofs.serving.finish_run.Goals as goal

pub close-requires-clause-gate : goal.close-requires-clause-gate
close-requires-clause-gate g c = (joined-same _ _ _ c.finish_all.ensures.joined).0 ∙ ap (λ (p : Passed Entry). p.gate) c.requires.root

pub close-requires-clause-root : goal.close-requires-clause-root
close-requires-clause-root g c = (joined-same _ _ _ c.finish_all.ensures.joined).1 ∙ ap (λ (p : Passed Entry). p.root) c.requires.root

pub close-requires-clause-outside : goal.close-requires-clause-outside
close-requires-clause-outside g c = (joined-same _ _ _ c.finish_all.ensures.joined).2 ∙ ap (λ (p : Passed Entry). p.turn) c.requires.root

pub close-requires-clause-out : goal.close-requires-clause-out
close-requires-clause-out g c = joined-out c.args.seats.items _ _ _ (search rules) (ap (λ (p : Passed Entry). p.out) c.requires.root) c.finish_all.ensures.joined

pub returns : goal.returns
returns g c =
    run-finished g.D.Desk.tells _ (g.D.Desk.says c.finish_all.new.desk) _ (texts c.args.words.now) c.args.seats.items _ c.args.root c.finish_all.new.root _ c.finish_all.new.outcomes.ends.items _ c.finish_all.new.outcomes.kept.items c.journal_name.result.now _
    (search rules) c.requires.outcomes.no_ends c.requires.outcomes.no_kept c.finish_all.ensures.ends c.finish_all.ensures.kept c.finish_all.ensures.joined
    c.close.ensures.own (c.into_history-history.ensures.history ∙ c.close.ensures.history) c.close.ensures.makers c.close.ensures.kept
    (search rules) c.journal_name.ensures
    (subst (λ (h : List Entry). KeepsText g.D.Desk.tells (g.D.Desk.says c.finish_all.new.desk) (g.D.Desk.says c.write_journal-journal.new.desk) c.journal_name.result.now (journal_text (journal h)) c.write_journal-journal.result) c.as_slice.ensures c.write_journal-journal.ensures.kept)
    c.write_journal-journal.ensures.only c.status_of.ensures

pub write_journal-journal-requires-clause-known : goal.write_journal-journal-requires-clause-known
write_journal-journal-requires-clause-known g c κs within =
    subst (λ (name : List ℕ). IsKnown (g.D.Desk.says c.finish_all.new.desk) name) (sym c.journal_name.ensures) (all-known (texts c.args.words.now) 0 _ _ _ _ c.finish_all.ensures.kept.2 _ c.requires.known)

pub status_of-requires-clause-kept : goal.status_of-requires-clause-kept
status_of-requires-clause-kept g c = few-kept (texts c.args.words.now) 0 _ _ _ c.finish_all.new.outcomes.kept.items _ _ c.requires.outcomes.no_kept c.finish_all.ensures.kept (search rules)
