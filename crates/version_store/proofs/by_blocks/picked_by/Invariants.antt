use Rattle.std.proofs.Common.{◌≡◌}
use Rattle.view_meaning.specs.Classes.{changed}
use Rattle.version_store.specs.Underway.{IsUnderway}
use Rattle.version_store.proofs.Blockwise.{HasMadeBlocks}
use Rattle.version_store.proofs.by_blocks.picked_by.Given as goal

abbrev pub invariant-loop-k : goal.invariant-loop-k
invariant-loop-k g l = record {
  underway : IsUnderway l.survey (g.T.Chooser.picks l.chooser) l.classes l.draft;
  made : HasMadeBlocks l.survey (g.T.Chooser.picks l.chooser) l.classes l.blocks l.k l.draft;
  count : l.changed ≡ changed l.classes l.draft;
}
