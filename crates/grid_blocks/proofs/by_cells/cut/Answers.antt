use Rattle.std.proofs.Common.{◌≡◌, ◌+◌, ◌/◌, ◌^◌, ◌≤◌, ◌++◌, ◌∷◌, [], List, length, get_or, refl, sym, subst}
use Rattle.std.proofs.lemmas.List.Elements.{All-push, All-same}
use Rattle.grid_blocks.specs.declared.block.Block.{Block}
use Rattle.grid_blocks.specs.Blocks.{Follow, part}
use Rattle.grid_blocks.specs.Cells.{IsRun}
use Rattle.grid_blocks.specs.LeastBox.{IsLeastBox}
use Rattle.grid_blocks.proofs.Cutting.{follow_more}
use Rattle.grid_blocks.proofs.by_cells.cut.Goals as goal

pub loop-first-preserved : goal.loop-first-preserved
loop-first-preserved c =
    let old = c.loop-first.list.items in
    let block = c.block_from-block.result in
    let is : c.push.new.self.items ≡ old ++ block ∷ [] = c.in_ok-push.ensures.pushed in
    record {
      within = c.block_from-block.ensures.within;
      follow = subst (λ (l : List Block). Follow 0 l (c.loop-first.first + block.count)) (sym is)
          (follow_more 0 old c.loop-first.first _ block c.loop-first.invariant.follow c.block_from-block.ensures.first refl);
      sizes = All-same (λ block. (1 ≤ block.count) × (block.count ≤ 1024)) _ _ is
          (All-push (λ block. (1 ≤ block.count) × (block.count ≤ 1024)) old block c.loop-first.invariant.sizes (c.block_from-block.ensures.some, c.block_from-block.ensures.few));
      areas = All-same (λ block. IsLeastBox (part block c.args.points.now) block.area) _ _ is
          (All-push (λ block. IsLeastBox (part block c.args.points.now) block.area) old block c.loop-first.invariant.areas c.block_from-block.ensures.area);
      runs = All-same (IsRun (λ place. get_or c.args.words.now place 0 / 2 ^ 26) (length c.args.words.now)) _ _ is
          (All-push (IsRun (λ place. get_or c.args.words.now place 0 / 2 ^ 26) (length c.args.words.now)) old block c.loop-first.invariant.runs c.block_from-block.ensures.run);
    }
